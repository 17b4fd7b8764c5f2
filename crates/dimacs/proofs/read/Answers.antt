-- The image is read first, then the text.
use Rattle.std.proofs.Common.{◌∙◌}
use Rattle.answer.proofs.Laws.{left_by, outcome_of}
use Rattle.task.proofs.Questions.{reads}
use Rattle.dimacs.proofs.ReadCalls.{read_task_lem, read_rest}
use Rattle.dimacs.proofs.read.Goals as goal

pub returns-in_err-read : goal.returns-in_err-read
returns-in_err-read c = outcome_of _ _ _ _ (left_by _ _ c.from_residual.ensures.1) (read_task_lem _ _ _ _ c.in_err-read.ensures)

pub atoms-requires : goal.atoms-requires
atoms-requires c = reads _ c.in_ok-read.ensures

pub returns : goal.returns
returns c = c.read_form.ensures ∙ read_rest _ _ _ (reads _ c.in_ok-read.ensures) _ c.atoms.ensures.0
