-- The questions up to 18, then the step.
use Rattle.std.proofs.Common.{◌∙◌}
use Rattle.definitions.specs.FdrStep.{step_fdr}
use Rattle.answer.proofs.Laws.{left_by, outcome_of}
use Rattle.answer.proofs.ReaderCalls.{step_rest, step_refused}
use Rattle.fdr.specs.Post.{fdr_reader}
use Rattle.fdr.proofs.Calls.{standing}
use Rattle.fdr.proofs.step.Goals as goal

pub returns-in_err-read_state : goal.returns-in_err-read_state
unfolding step_fdr
returns-in_err-read_state c =
    outcome_of _ _ _ _ (left_by _ _ c.from_residual.ensures.1) (step_refused fdr_reader _ _ _ c.in_err-read_state.ensures _)

pub step_read-requires : goal.step_read-requires
step_read-requires c = standing _ _ c.in_ok-read_state.ensures

pub returns : goal.returns
unfolding step_fdr
returns c =
    let y = c.in_ok-read_state.ensures in
    c.step_read.ensures ∙ step_rest fdr_reader _ _ y _ (standing _ _ y).reads.found _
