-- `fdr_image::domain::none_flag`: the second word of the variable's pair.
use native.Mathlib.Omega.{arith}
use mathlib.Core.Path.{◌∙◌}
use Rattle.fdr_image.proofs.DomainLaws.{pair_inside, flag_at}
use Rattle.fdr_image.proofs.domain.none_flag.Goals as goal

pub overflow_mul-variable : goal.overflow_mul-variable
overflow_mul-variable c = omega (arith, pair_inside _ _ c.requires)

pub overflow_add-variable : goal.overflow_add-variable
overflow_add-variable c = omega (arith, pair_inside _ _ c.requires)

pub offset_bounds-domains-variable : goal.offset_bounds-domains-variable
offset_bounds-domains-variable c = omega (arith, pair_inside _ _ c.requires)

pub bounds-domains-variable : goal.bounds-domains-variable
bounds-domains-variable c = omega (arith, pair_inside _ _ c.requires)

pub returns : goal.returns
returns c = (c.wide.ensures.0 ∙ flag_at _ _ c.requires, c.wide.ensures.1)
