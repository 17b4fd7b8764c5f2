-- `agreement::steps::from_start`: the first test that fails decides.
use Rattle.std.proofs.Common.{◌≡◌, ◌&&◌, ◌∙◌}
use Rattle.agreement.specs.Compared.{steps_same, steps_from_start}
use Rattle.agreement.proofs.SameLaws.{last_test, test_fails}
use Rattle.agreement.proofs.Comparing.{steps_not_set, steps_set}
use Rattle.agreement.proofs.steps.from_start.Goals as goal
use Rattle.agreement.proofs.steps.from_start.Goals.{Joined-set_both, then-set_both, else-set_both}

-- after the states are compared, if both were set
compared :
    (j : Joined-set_both) → let a = j.args in let x = j.set_both.new in
    (j.if-set_both.value && steps_same a.image.now a.encoded.now a.clauses.now a.list.now x.state x.values)
    ≡ steps_from_start a.image.now a.encoded.now a.clauses.now a.list.now a.state.now a.values.now
compared j =
    elim j.if-set_both.branch [
      | then-set_both w ↦ rw (w.value-is ∙ w.same_states.ensures) (steps_set _ _ _ _ _ _ j.set_both.ensures w.if-set_both.true)
      | else-set_both w ↦ rw (w.value-is ∙ w.if-set_both.false) (steps_not_set _ _ _ _ _ _ j.set_both.ensures w.if-set_both.false)
    ]

pub returns-then-same_states : goal.returns-then-same_states
returns-then-same_states c = c.same_steps.ensures ∙ last_test _ (compared (goal.at.returns-then-same_states c).Joined-set_both) c.if-same_states.true

pub returns-else-same_states : goal.returns-else-same_states
returns-else-same_states c = test_fails _ (compared (goal.at.returns-else-same_states c).Joined-set_both) c.if-same_states.false
