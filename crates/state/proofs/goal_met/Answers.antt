-- The questions up to 18, then the test of the goal.
use Rattle.std.proofs.Common.{◌∙◌, ap}
use Rattle.definitions.specs.Literal.{all_true}
use Rattle.definitions.specs.Step.{goal_task}
use Rattle.answer.proofs.Laws.{left_by}
use Rattle.answer.proofs.ReaderCalls.{goal_rest, goal_refused}
use Rattle.state.specs.Post.{task_reader}
use Rattle.state.proofs.Calls.{standing}
use Rattle.state.proofs.goal_met.Goals as goal

pub returns-in_err-read_state : goal.returns-in_err-read_state
unfolding goal_task
returns-in_err-read_state c = left_by _ _ c.from_residual.ensures.1 ∙ goal_refused task_reader _ _ _ c.in_err-read_state.ensures

pub goal-requires : goal.goal-requires
goal-requires c = (standing _ _ c.in_ok-read_state.ensures).reads

pub returns : goal.returns
unfolding goal_task
returns c =
    let y = c.in_ok-read_state.ensures in
    goal_rest task_reader _ _ y _ (standing _ _ y).reads.found _ (c.all_true.ensures ∙ ap (all_true _) c.goal.ensures)
