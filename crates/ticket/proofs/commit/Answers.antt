-- `ticket::commit`: the questions up to 18, then the commit in a task's state.
use Rattle.std.proofs.Common.{◌∙◌}
use Rattle.answer.proofs.Laws.{left_by}
use Rattle.state.proofs.Calls.{standing}
use Rattle.ticket.proofs.Calls.{commit_refused, commit_rest}
use Rattle.ticket.proofs.Outcomes.{by_answer}
use Rattle.ticket.proofs.commit.Goals as goal

pub returns-in_err-read_state : goal.returns-in_err-read_state
returns-in_err-read_state c =
    by_answer _ _ _ _ (left_by _ _ c.from_residual.ensures.1) (commit_refused _ _ _ _ _ c.in_err-read_state.ensures)

pub commit_read-requires : goal.commit_read-requires
commit_read-requires c = standing _ _ c.in_ok-read_state.ensures

pub returns : goal.returns
returns c =
    let yes-18 = c.in_ok-read_state.ensures in
    c.commit_read.ensures ∙ commit_rest _ _ _ _ yes-18 _ (standing _ _ yes-18).reads.found
