use Rattle.std.proofs.Common.{◌∙◌}
use Rattle.cases.proofs.Laws.{value_stored, value_missing}
use Rattle.cases.proofs.input.value.Goals as goal

pub returns-then-i-count : goal.returns-then-i-count
returns-then-i-count c = c.word.ensures ∙ value_stored _ _ _ _ c.if-i-count.true

pub returns-else-i-count : goal.returns-else-i-count
returns-else-i-count c = value_missing _ _ _ _ c.if-i-count.false
