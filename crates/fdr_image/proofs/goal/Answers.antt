-- `fdr_image::goal`: an image that reads has its goal in part 3.
use native.Mathlib.Omega.{arith}
use Rattle.fdr_image.proofs.Reading.{image_lies, goal_is}
use Rattle.fdr_image.proofs.goal.Goals as goal

pub part-requires : goal.part-requires
part-requires c = image_lies _ c.requires _ (omega arith)

pub returns : goal.returns
returns c = goal_is _ c.requires _ c.part.ensures
