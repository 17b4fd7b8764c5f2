-- The image and the clauses are read first, then the text is written.
use Rattle.std.proofs.Common.{ℕ, ◌∙◌, sym, subst}
use Rattle.answer.proofs.Laws.{left_by, outcome_of}
use Rattle.clause.specs.Rows.{ClausesRead}
use Rattle.dimacs.proofs.Calls.{write_both, write_rest}
use Rattle.dimacs.proofs.write.Goals as goal

pub returns-in_err-read : goal.returns-in_err-read
returns-in_err-read c = outcome_of _ _ _ _ (left_by _ _ c.from_residual.ensures.1) (write_both _ _ _ _ c.in_err-read.ensures)

pub atoms-requires : goal.atoms-requires
atoms-requires c = c.in_ok-read.ensures.task

pub write_read-requires : goal.write_read-requires
write_read-requires c =
    subst (λ (k : ℕ). ClausesRead k c.args.clauses.now) (sym c.atoms.ensures.0) c.in_ok-read.ensures.clauses

pub returns : goal.returns
returns c = c.write_read.ensures ∙ write_rest _ _ _ c.in_ok-read.ensures _ c.atoms.ensures.0
