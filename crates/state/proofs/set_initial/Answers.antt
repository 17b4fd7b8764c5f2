-- The questions of the image, then the length of the state.
use Rattle.std.proofs.Common.{◌∙◌}
use borrow.Author.Tests.{eqb-true, eqb-false}
use Rattle.definitions.specs.Answer.{ask}
use Rattle.definitions.specs.Step.{start_task}
use Rattle.answer.proofs.Laws.{left_by, outcome_of, asked_no, asked_yes, asked_refusal}
use Rattle.answer.proofs.ReaderCalls.{start_refused, start_long, start_done}
use Rattle.task.proofs.Questions.{reads}
use Rattle.state.specs.Post.{task_reader}
use Rattle.state.proofs.set_initial.Goals as goal

pub returns-in_err-read : goal.returns-in_err-read
unfolding start_task
returns-in_err-read c =
    outcome_of _ _ _ _ (left_by _ _ c.from_residual.ensures.1) (start_refused task_reader _ _ _ c.in_err-read.ensures)

pub atoms-atoms-requires : goal.atoms-atoms-requires
atoms-atoms-requires c = reads _ c.in_ok-read.ensures

pub returns-in_err-ask : goal.returns-in_err-ask
unfolding start_task ask
returns-in_err-ask c =
    let no = asked_no _ _ _ _ c.in_err-ask.ensures in
    outcome_of _ _ _ _ (left_by _ _ c.from_residual-in_err-ask.ensures.1 ∙ c.in_err-ask.ensures ∙ asked_refusal _ _ _ no)
    (start_long task_reader _ _ _ (reads _ c.in_ok-read.ensures).found _ c.atoms-atoms.ensures.0 (eqb-false _ _ no))

pub write_initial-requires : goal.write_initial-requires
unfolding ask
write_initial-requires c = (reads _ c.in_ok-read.ensures, eqb-true _ _ (asked_yes _ _ _ _ c.in_ok-ask.ensures) ∙ c.atoms-atoms.ensures.0)

pub returns : goal.returns
unfolding start_task ask
returns c =
    start_done task_reader _ _ _ (reads _ c.in_ok-read.ensures).found _ c.atoms-atoms.ensures.0
    (eqb-true _ _ (asked_yes _ _ _ _ c.in_ok-ask.ensures)) _ c.write_initial.ensures
