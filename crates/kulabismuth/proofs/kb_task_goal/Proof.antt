use mathlib.Core.Path.{ap, ◌∙◌}
use Rattle.kulabismuth.specs.Returned.{returned_test}
use borrow.Author.Rules.{rules}
use Rattle.kulabismuth.proofs.kb_task_goal.Statement.{statement}
use Rattle.kulabismuth.proofs.kb_task_goal.Tie as tie

goal-met-requires : tie.Need-goal_met-requires
goal-met-requires c κs = search rules

test-requires : tie.Need-test-requires
test-requires c κs = search rules

returns : tie.Need-returns
returns c = c.test.ensures ∙ ap returned_test c.goal_met.ensures

pub kb_task_goal_spec : {M : Type 1} → statement M
kb_task_goal_spec = tie.close (tie.spec
    goal-met-requires
    test-requires
    returns)
