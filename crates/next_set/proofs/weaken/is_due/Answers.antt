-- `next_set::weaken::is_due`: the flag, then the number of literals.
use mathlib.Core.Path.{◌∙◌}
use borrow.Author.Tests.{ne_eqb}
use Rattle.next_set.proofs.Due.{due_unflagged, due_flagged}
use Rattle.next_set.proofs.weaken.is_due.Goals as goal

pub returns-then-flags-place-eq1 : goal.returns-then-flags-place-eq1
returns-then-flags-place-eq1 c = due_flagged _ _ _ _ c.requires.1.inside _ _ c.row.ensures c.literals.ensures c.if-flags-place-eq1.true

pub returns-else-flags-place-eq1 : goal.returns-else-flags-place-eq1
returns-else-flags-place-eq1 c = ne_eqb _ _ c.if-flags-place-eq1.false ∙ due_unflagged _ _ _ _ c.requires.1.inside c.if-flags-place-eq1.false
