-- `fdr::truth::is_true`: by the sign of the literal.
use Rattle.fdr.proofs.Notes.{true_plain, true_negated}
use Rattle.fdr.proofs.truth.is_true.Goals as goal

pub returns-then-code-eq0 : goal.returns-then-code-eq0
returns-then-code-eq0 c = true_plain _ _ _ _ c.value.ensures.0 c.if-code-eq0.true

pub returns-else-code-eq0 : goal.returns-else-code-eq0
returns-else-code-eq0 c = true_negated _ _ _ _ c.value.ensures.0 c.if-code-eq0.false
