-- `agreement::steps::same_steps`: a step that answers otherwise, or leaves other states, decides.
use Rattle.agreement.proofs.SameLaws.{said_no, said_yes}
use Rattle.agreement.proofs.Comparing.{stepping_end, step_differs, states_differ, step_on}
use Rattle.agreement.proofs.steps.same_steps.Goals as goal
use Rattle.agreement.proofs.steps.same_steps.Goals.{then-not-step_both-via-then-not-step_both}
use Rattle.agreement.proofs.steps.same_steps.Goals.{then-not-step_both-via-else-not-step_both+then-not-same_states}

pub returns-then-not-step_both : goal.returns-then-not-step_both
returns-then-not-step_both c =
    elim c.then-not-step_both.branch [
      | then-not-step_both-via-then-not-step_both w ↦
          step_differs _ _ _ _ _ _ _ _ _ c.loop-operator.invariant _ _ c.loop-operator-test.true _ c.step_both.ensures w.if-not-step_both.true
      | then-not-step_both-via-else-not-step_both+then-not-same_states w ↦
          states_differ _ _ _ _ _ _ _ _ _ c.loop-operator.invariant _ _ c.loop-operator-test.true _ c.step_both.ensures w.if-not-step_both.false
          (said_no w.same_states.ensures w.if-not-same_states.true)
    ]

pub loop-operator-preserved : goal.loop-operator-preserved
loop-operator-preserved c =
    step_on _ _ _ _ _ _ _ _ _ c.loop-operator.invariant _ _ c.loop-operator-test.true _ c.step_both.ensures
    (record { atoms = c.step_both.auto.state; values = c.step_both.auto.values }) c.if-not-step_both.false
    (said_yes c.same_states.ensures c.if-not-same_states.false)

pub returns : goal.returns
returns c = stepping_end _ _ _ _ _ _ _ _ _ c.loop-operator.invariant c.loop-operator-test.false
