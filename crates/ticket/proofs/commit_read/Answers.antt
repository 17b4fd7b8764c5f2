-- `ticket::commit_read`: question 28, then the step, which is counted if it is made.
use Rattle.std.proofs.Common.{◌∙◌, sym, arith}
use Rattle.definitions.specs.Answer.{ask}
use Rattle.definitions.specs.Ticket.{last_count}
use Rattle.definitions.proofs.TicketLists.{valid_not_last}
use Rattle.answer.proofs.Laws.{left_by, asked_no, asked_yes, asked_refusal}
use Rattle.ticket.proofs.Calls.{no_28, not_committed, committed}
use Rattle.ticket.proofs.Outcomes.{by_answer}
use Rattle.ticket.proofs.commit_read.Goals as goal

pub returns-in_err-ask : goal.returns-in_err-ask
unfolding ask
returns-in_err-ask c =
    let no = asked_no _ _ _ _ c.in_err-ask.ensures in
    by_answer _ _ _ _ (left_by _ _ c.from_residual.ensures.1 ∙ c.in_err-ask.ensures ∙ asked_refusal _ _ _ no)
    (no_28 _ _ _ _ (sym c.is_valid.ensures ∙ no))

pub returns-in_err-step_read : goal.returns-in_err-step_read
unfolding ask
returns-in_err-step_read c =
    by_answer _ _ _ _ (left_by _ _ c.from_residual-in_err-step_read.ensures.1)
    (not_committed _ _ _ _ (sym c.is_valid.ensures ∙ asked_yes _ _ _ _ c.in_ok-ask.ensures) _ _ c.in_err-step_read.ensures)

pub overflow_add-count : goal.overflow_add-count
unfolding last_count ask
overflow_add-count c =
    let a = c.args in
    let below = valid_not_last a.ticket.count a.count.now (sym c.is_valid.ensures ∙ asked_yes _ _ _ _ c.in_ok-ask.ensures) in
    omega arith

pub returns : goal.returns
unfolding ask
returns c = committed _ _ _ _ (sym c.is_valid.ensures ∙ asked_yes _ _ _ _ c.in_ok-ask.ensures) _ c.in_ok-step_read.ensures
