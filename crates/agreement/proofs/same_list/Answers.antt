-- `agreement::same_list`: the steps, then the list runs, from states of the same lengths.
use Rattle.std.proofs.Common.{sym, ◌∙◌}
use Rattle.agreement.proofs.SameLaws.{said_no, said_yes}
use Rattle.agreement.proofs.Comparing.{list_differs, list_on}
use Rattle.agreement.proofs.same_list.Goals as goal

pub returns-then-from_start : goal.returns-then-from_start
returns-then-from_start c =
    c.from_start-then-from_start.ensures
    ∙ list_on _ _ _ _ _ _ _ _
    (sym c.from_start.auto.state)
    (sym c.from_start.auto.values)
    (said_yes c.from_start.ensures c.if-from_start.true)

pub returns-else-from_start : goal.returns-else-from_start
returns-else-from_start c = c.if-from_start.false ∙ list_differs _ _ _ _ _ _ (said_no c.from_start.ensures c.if-from_start.false)
