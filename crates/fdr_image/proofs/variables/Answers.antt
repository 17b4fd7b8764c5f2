-- `fdr_image::variables`: the first word of an image that reads.
use mathlib.Core.Path.{◌∙◌}
use native.Mathlib.Omega.{arith}
use Rattle.fdr_image.proofs.Reading.{image_room, variables_are}
use Rattle.fdr_image.proofs.variables.Goals as goal

pub bounds-image-0 : goal.bounds-image-0
bounds-image-0 c = omega (arith, image_room _ c.requires)

pub returns : goal.returns
returns c = (
  c.wide.ensures.0 ∙ (variables_are _ c.requires).0,
  omega (arith, c.wide.ensures.0, (variables_are _ c.requires).1),
)
