-- The questions up to 18, then the steps of the list.
use Rattle.std.proofs.Common.{◌∙◌}
use Rattle.definitions.specs.Step.{run_task}
use Rattle.answer.proofs.Laws.{left_by, outcome_of}
use Rattle.answer.proofs.ReaderCalls.{run_rest, run_refused}
use Rattle.state.specs.Post.{task_reader}
use Rattle.state.proofs.Calls.{standing}
use Rattle.state.proofs.run.Goals as goal

pub returns-in_err-read_state : goal.returns-in_err-read_state
unfolding run_task
returns-in_err-read_state c =
    outcome_of _ _ _ _ (left_by _ _ c.from_residual.ensures.1) (run_refused task_reader _ _ _ c.in_err-read_state.ensures _)

pub run_read-requires : goal.run_read-requires
run_read-requires c = standing _ _ c.in_ok-read_state.ensures

pub returns : goal.returns
unfolding run_task
returns c =
    let y = c.in_ok-read_state.ensures in
    c.run_read.ensures ∙ run_rest task_reader _ _ y _ (standing _ _ y).reads.found _
