-- The rows that are left are over the atoms of the places, and are left to be written.
use Rattle.task.specs.Rows.{rows_left}
use Rattle.task.specs.Post.{RowsOver}
use Rattle.writing.specs.Writing.{Writing}
use Rattle.reencoding.specs.Words.{atoms_of, rows_by}
use Rattle.reencoding.proofs.block.rows.Given as goal

abbrev pub invariant-loop-code : goal.invariant-loop-code
invariant-loop-code l = record {
  over : RowsOver (atoms_of l.places) (rows_left l.code-iterator);
  words : Writing l.fn.target l.at (rows_by l.places (rows_left l.list)) l.target l.to (rows_by l.places (rows_left l.code-iterator));
}
