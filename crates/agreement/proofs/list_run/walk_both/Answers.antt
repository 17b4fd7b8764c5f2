use Rattle.std.proofs.Common.{◌∙◌, sym, ap, not}
use Rattle.definitions.proofs.AnswerLaws.{left}
use Rattle.answer.proofs.Laws.{outcome_of}
use Rattle.agreement.proofs.OkLaws.{ok_answer, err_answer}
use Rattle.agreement.proofs.Taken.{walking_start, walking_stop, walking_on, walking_end}
use Rattle.agreement.proofs.list_run.walk_both.Goals as goal

pub loop-operator-init : goal.loop-operator-init
loop-operator-init c = walking_start _ _ _ _ _

pub returns-then-is_err : goal.returns-then-is_err
returns-then-is_err c =
    let no = err_answer _ (c.is_err.ensures.negation ∙ ap not c.if-is_err.true) in
    walking_stop _ _ _ _ _ _ _ _ c.loop-operator.invariant _ c.loop-operator-test.true _ (outcome_of _ _ _ _ (sym no.1) c.step.ensures)

pub loop-operator-preserved : goal.loop-operator-preserved
loop-operator-preserved c =
    walking_on _ _ _ _ _ _ _ _ c.loop-operator.invariant _ c.loop-operator-test.true _
    (outcome_of _ _ _ _ (sym (ok_answer _ (c.is_err.ensures.negation ∙ ap not c.if-is_err.false))) c.step.ensures)
    (left _ _ _ _ c.step-in-loop-operator.ensures)
    (record { atoms = c.step.auto.state; values = c.step-in-loop-operator.auto.state })

pub returns : goal.returns
returns c = walking_end _ _ _ _ _ _ _ _ c.loop-operator.invariant c.loop-operator-test.false
