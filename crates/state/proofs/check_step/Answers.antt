-- The questions up to 18, then those of the operator.
use Rattle.std.proofs.Common.{◌∙◌, ap, ℕ}
use Rattle.definitions.specs.Answer.{verdict}
use Rattle.definitions.specs.Step.{step, step_task}
use Rattle.answer.proofs.Laws.{left_by}
use Rattle.task.specs.Reads.{task_of}
use Rattle.state.specs.Post.{task_reader}
use Rattle.state.proofs.Calls.{standing}
use Rattle.state.proofs.Asked.{check_refused, check_rest}
use Rattle.state.proofs.check_step.Goals as goal

pub returns-in_err-read_state : goal.returns-in_err-read_state
unfolding step_task
returns-in_err-read_state c = left_by _ _ c.from_residual.ensures.1 ∙ check_refused task_reader _ _ _ c.in_err-read_state.ensures _

pub check_operator-requires : goal.check_operator-requires
check_operator-requires c = (standing _ _ c.in_ok-read_state.ensures).reads

pub returns : goal.returns
unfolding step_task
returns c =
    let yes-18 = c.in_ok-read_state.ensures in
    c.check_operator.ensures
    ∙ ap (λ (i : ℕ). verdict (step (task_of c.args.image.now) c.args.state.now i)) c.wide.ensures.0
    ∙ check_rest task_reader _ _ yes-18 _ (standing _ _ yes-18).reads.found _
