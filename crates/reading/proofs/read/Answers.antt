-- The image is read first, then the clauses.
use Rattle.answer.proofs.Laws.{left_as}
use Rattle.task.proofs.Questions.{reads}
use Rattle.reading.specs.Reading.{BothAnswer}
use Rattle.reading.proofs.Questions.{both_task, both_clauses}
use Rattle.reading.proofs.read.Goals as goal

pub returns-in_err-read : goal.returns-in_err-read
returns-in_err-read c =
    left_as (BothAnswer c.args.image.now c.args.clauses.now) _ _ c.from_residual.ensures.1
    (both_task c.args.image.now c.args.clauses.now _ c.in_err-read.ensures)

pub atoms-requires : goal.atoms-requires
atoms-requires c = reads c.args.image.now c.in_ok-read.ensures

pub returns : goal.returns
returns c =
    both_clauses c.args.image.now c.args.clauses.now (reads c.args.image.now c.in_ok-read.ensures) c.atoms.result c.atoms.ensures.0
    c.check_rows.result c.check_rows.ensures
