-- `ticket::ask`: the step's questions, and then the ticket.
use Rattle.std.proofs.lemmas.Result.{err_from_is_err_and}
use Rattle.ticket.proofs.Calls.{ask_refused, ask_given}
use Rattle.ticket.proofs.ask.Goals as goal

pub returns-in_err-check_step : goal.returns-in_err-check_step
returns-in_err-check_step c =
    let p = err_from_is_err_and c.from_residual.result c.from_residual.ensures.1 in
    rw (p.1, p.2) (ask_refused _ _ _ _ _ c.in_err-check_step.ensures)

pub returns : goal.returns
returns c = ask_given _ _ _ _ c.in_ok-check_step.ensures
