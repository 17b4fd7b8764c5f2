-- `fdr_image::initial`: an image that reads has its initial values in part 2.
use native.Mathlib.Omega.{arith}
use Rattle.fdr_image.proofs.Reading.{image_lies, initial_is}
use Rattle.fdr_image.proofs.initial.Goals as goal

pub part-requires : goal.part-requires
part-requires c = image_lies _ c.requires _ (omega arith)

pub returns : goal.returns
returns c = initial_is _ c.requires _ c.part.ensures
