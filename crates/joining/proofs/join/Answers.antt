-- The first image is read, then the second, then they are joined.
use Rattle.std.proofs.Common.{◌∙◌, rules}
use Rattle.answer.proofs.Laws.{left_by, outcome_of}
use Rattle.task.proofs.Questions.{reads}
use Rattle.joining.proofs.Calls.{first_refused, second_refused, both_read}
use Rattle.joining.proofs.join.Goals as goal

pub returns-in_err-read : goal.returns-in_err-read
returns-in_err-read c = outcome_of _ _ _ _ (left_by _ _ c.from_residual.ensures.1) (first_refused _ _ _ _ c.in_err-read.ensures)

pub returns-in_err-read-2 : goal.returns-in_err-read-2
returns-in_err-read-2 c =
    outcome_of _ _ _ _ (left_by _ _ c.from_residual-in_err-read-2.ensures.1)
    (second_refused _ _ _ (reads _ c.in_ok-read.ensures) _ c.in_err-read-2.ensures)

pub join_read-requires : goal.join_read-requires
join_read-requires c =
    let first = reads _ c.in_ok-read.ensures in
    let second = reads _ c.in_ok-read-2.ensures in
    search rules

pub returns : goal.returns
returns c = c.join_read.ensures ∙ both_read _ _ _ (reads _ c.in_ok-read.ensures) (reads _ c.in_ok-read-2.ensures)
