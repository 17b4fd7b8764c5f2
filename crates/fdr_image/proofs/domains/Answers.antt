-- `fdr_image::domains`: an image that reads has its domains in part 0.
use native.Mathlib.Omega.{arith}
use Rattle.fdr_image.proofs.Reading.{image_lies, domains_are}
use Rattle.fdr_image.proofs.domains.Goals as goal

pub part-requires : goal.part-requires
part-requires c = image_lies _ c.requires _ (omega arith)

pub returns : goal.returns
returns c = domains_are _ c.requires _ c.part.ensures
