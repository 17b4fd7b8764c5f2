-- `fdr_image::operators`: the second word of an image that reads.
use mathlib.Core.Path.{◌∙◌}
use native.Mathlib.Omega.{arith}
use Rattle.fdr_image.proofs.Reading.{image_room, operators_are}
use Rattle.fdr_image.proofs.operators.Goals as goal

pub bounds-image-1 : goal.bounds-image-1
bounds-image-1 c = omega (arith, image_room _ c.requires)

pub returns : goal.returns
returns c = (
  c.wide.ensures.0 ∙ (operators_are _ c.requires).0,
  omega (arith, c.wide.ensures.0, (operators_are _ c.requires).1),
)
