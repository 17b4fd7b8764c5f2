-- `agreement::list_run::from_start`: the first test that fails decides.
use Rattle.std.proofs.Common.{◌≡◌, ◌&&◌, ◌∙◌}
use Rattle.agreement.specs.Compared.{same_states, left_by_steps, runs_from_start}
use Rattle.agreement.proofs.SameLaws.{last_test, test_fails, test_made, test_left}
use Rattle.agreement.proofs.Comparing.{runs_not_set, runs_made}
use Rattle.agreement.proofs.list_run.from_start.Goals as goal
use Rattle.agreement.proofs.list_run.from_start.Goals.{Joined-run_both, then-set_both, else-set_both, then-run_both, else-run_both}

-- after the list runs, if both states were set
ran :
    (j : Joined-run_both) → let a = j.args in let x = j.if-set_both in
    (x.value && (same_states a.image.now a.encoded.now a.clauses.now x.state x.values && left_by_steps a.image.now a.encoded.now a.list.now x.state x.values))
    ≡ runs_from_start a.image.now a.encoded.now a.clauses.now a.list.now a.state.now a.values.now
ran j =
    elim j.if-set_both.branch [
      | then-set_both w ↦ rw (w.value-is, w.state-is, w.values-is) (runs_made _ _ _ _ _ _ j.set_both.ensures w.if-set_both.true w.run_both.ensures)
      | else-set_both w ↦ rw (w.value-is ∙ w.if-set_both.false) (runs_not_set _ _ _ _ _ _ j.set_both.ensures w.if-set_both.false)
    ]

-- after the states left are compared, if the answers are the same
compared :
    (j : Joined-run_both) → let a = j.args in let x = j.if-set_both in
    (j.if-run_both.value && left_by_steps a.image.now a.encoded.now a.list.now x.state x.values)
    ≡ runs_from_start a.image.now a.encoded.now a.clauses.now a.list.now a.state.now a.values.now
compared j =
    elim j.if-run_both.branch [
      | then-run_both w ↦ test_made _ _ (ran j) w.if-run_both.true (w.value-is ∙ w.same_states.ensures)
      | else-run_both w ↦ test_left _ _ (ran j) w.if-run_both.false (w.value-is ∙ w.if-run_both.false)
    ]

pub returns-then-same_states : goal.returns-then-same_states
returns-then-same_states c = c.leaves.ensures ∙ last_test _ (compared (goal.at.returns-then-same_states c).Joined-run_both) c.if-same_states.true

pub returns-else-same_states : goal.returns-else-same_states
returns-else-same_states c = test_fails _ (compared (goal.at.returns-else-same_states c).Joined-run_both) c.if-same_states.false
