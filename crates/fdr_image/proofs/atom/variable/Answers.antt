-- `fdr_image::atom::variable`: the first word of the atom's pair.
use native.Mathlib.Omega.{arith}
use mathlib.Core.Path.{◌∙◌}
use Rattle.fdr_image.proofs.Pairs.{place_inside, place_variable}
use Rattle.fdr_image.proofs.atom.variable.Goals as goal

pub overflow_mul-atom : goal.overflow_mul-atom
overflow_mul-atom c = omega (arith, place_inside _ _ c.requires)

pub offset_bounds-atoms-atom : goal.offset_bounds-atoms-atom
offset_bounds-atoms-atom c = omega (arith, place_inside _ _ c.requires)

pub bounds-atoms-atom : goal.bounds-atoms-atom
bounds-atoms-atom c = omega (arith, place_inside _ _ c.requires)

pub returns : goal.returns
returns c = (c.wide.ensures.0 ∙ place_variable _ _ c.requires, c.wide.ensures.1)
