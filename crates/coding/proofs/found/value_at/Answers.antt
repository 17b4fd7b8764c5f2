-- `coding::found::value_at`: what is noted, or the last value; a variable of an image that reads has a value.
use Rattle.std.proofs.Common.{arith}
use Rattle.definitions.specs.Fdr.{domain_at}
use Rattle.fdr_image.proofs.Reading.{initial_right}
use Rattle.fdr_image.proofs.DomainLaws.{values_some}
use Rattle.coding.proofs.Laws.{value_noted, value_none}
use Rattle.coding.proofs.found.value_at.Goals as goal

pub overflow_sub-result : goal.overflow_sub-result
unfolding domain_at
overflow_sub-result c =
    omega (arith, c.domain_size.ensures.0, values_some _ _ (initial_right _ c.requires.reads) _ c.requires.variable)

pub returns-then-noted-eq0 : goal.returns-then-noted-eq0
returns-then-noted-eq0 c = value_none _ _ _ _ c.if-noted-eq0.true c.domain_size.ensures.0

pub returns-else-noted-eq0 : goal.returns-else-noted-eq0
returns-else-noted-eq0 c = value_noted _ _ _ c.if-noted-eq0.false
