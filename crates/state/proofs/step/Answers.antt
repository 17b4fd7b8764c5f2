-- The questions up to 18, then the step.
use Rattle.std.proofs.Common.{◌∙◌}
use Rattle.definitions.specs.Step.{step_task}
use Rattle.answer.proofs.Laws.{left_by, outcome_of}
use Rattle.answer.proofs.ReaderCalls.{step_rest, step_refused}
use Rattle.state.specs.Post.{task_reader}
use Rattle.state.proofs.Calls.{standing}
use Rattle.state.proofs.step.Goals as goal

pub returns-in_err-read_state : goal.returns-in_err-read_state
unfolding step_task
returns-in_err-read_state c =
    outcome_of _ _ _ _ (left_by _ _ c.from_residual.ensures.1) (step_refused task_reader _ _ _ c.in_err-read_state.ensures _)

pub step_read-requires : goal.step_read-requires
step_read-requires c = standing _ _ c.in_ok-read_state.ensures

pub returns : goal.returns
unfolding step_task
returns c =
    let y = c.in_ok-read_state.ensures in
    c.step_read.ensures ∙ step_rest task_reader _ _ y _ (standing _ _ y).reads.found _
