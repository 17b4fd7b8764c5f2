-- `fdr_image::places`: an image that reads has its atoms in part 1.
use native.Mathlib.Omega.{arith}
use Rattle.fdr_image.proofs.Reading.{image_lies, places_are}
use Rattle.fdr_image.proofs.places.Goals as goal

pub part-requires : goal.part-requires
part-requires c = image_lies _ c.requires _ (omega arith)

pub returns : goal.returns
returns c = places_are _ c.requires _ c.part.ensures
