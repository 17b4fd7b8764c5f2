-- `fdr_image::is_goal`: an even number of words, then the literals.
use Rattle.std.proofs.Common.{◌∙◌}
use borrow.Author.Tests.{ne_eqb}
use Rattle.fdr_image.proofs.Reading.{goal_odd, goal_even}
use Rattle.fdr_image.proofs.is_goal.Goals as goal

pub returns-then-goal-eq0 : goal.returns-then-goal-eq0
returns-then-goal-eq0 c = c.are_literals.ensures ∙ goal_even _ _ c.if-goal-eq0.true

pub returns-else-goal-eq0 : goal.returns-else-goal-eq0
returns-else-goal-eq0 c = ne_eqb _ _ c.if-goal-eq0.false ∙ goal_odd _ _ c.if-goal-eq0.false
