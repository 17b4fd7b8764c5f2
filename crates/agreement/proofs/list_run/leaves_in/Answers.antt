-- `agreement::list_run::leaves_in`: the first test that fails decides.
use Rattle.std.proofs.Common.{◌∙◌}
use Rattle.agreement.proofs.SameLaws.{said_no, said_yes, list_compared}
use Rattle.agreement.proofs.Taken.{left_not_set, left_differs, left_on}
use Rattle.agreement.proofs.list_run.leaves_in.Goals as goal

pub returns-then-not-set_both : goal.returns-then-not-set_both
returns-then-not-set_both c = left_not_set _ _ _ _ _ _ _ _ _ c.requires _ c.set_both.ensures c.if-not-set_both.true

pub returns-then-eq : goal.returns-then-eq
returns-then-eq c =
    c.eq-then-eq.ensures
    ∙ list_compared _ _
    ∙ left_on _ _ _ _ _ _ _ _ _ c.requires _ c.set_both.ensures _ _ c.walk_both.ensures c.if-not-set_both.false
    (said_yes (c.eq.ensures ∙ list_compared _ _) c.if-eq.true)

pub returns-else-eq : goal.returns-else-eq
returns-else-eq c =
    c.if-eq.false
    ∙ left_differs _ _ _ _ _ _ _ _ _ c.requires _ c.set_both.ensures _ _ c.walk_both.ensures c.if-not-set_both.false
    (said_no (c.eq.ensures ∙ list_compared _ _) c.if-eq.false)
