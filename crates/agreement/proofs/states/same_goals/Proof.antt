-- `agreement::states::same_goals`: the two answers are compared.
use mathlib.Core.Path.{◌∙◌, ap₂}
use Rattle.agreement.specs.Same.{both_found, same_bool}
use borrow.Author.Rules.{rules}
use Rattle.agreement.proofs.states.same_goals.Statement.{statement}
use Rattle.agreement.proofs.states.same_goals.Tie as tie

goal-met-requires : tie.Need-goal_met-first-requires
goal-met-requires c κs = search rules

goal-met-requires-2 : tie.Need-goal_met-second-requires
goal-met-requires-2 c κs = search rules

tests-requires : tie.Need-tests-requires
tests-requires c κs = search rules

returns : tie.Need-returns
returns c = c.tests.ensures ∙ ap₂ (both_found same_bool) c.goal_met-first.ensures c.goal_met-second.ensures

pub same_goals_spec : {M : Type 1} → statement M
same_goals_spec = tie.close (tie.spec
    goal-met-requires
    goal-met-requires-2
    tests-requires
    returns)
