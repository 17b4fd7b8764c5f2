-- `dimacs::size::rows_length`: the bytes of the lines of the rows that are left, and those counted so far, are those of all rows.
use Rattle.std.proofs.Common.{◌≡◌, ◌+◌, length}
use Rattle.std.specs.Slice.Iter.{chunks_exact_rest, chunks_exact_size}
use Rattle.definitions.specs.Lists.{each}
use Rattle.clause.specs.Rows.{clauses_of}
use Rattle.dimacs.specs.Write.{row_line}
use Rattle.dimacs.proofs.size.rows_length.Given as goal

abbrev pub invariant-loop-row : goal.invariant-loop-row
invariant-loop-row l =
    record {
      wide : chunks_exact_size l.row-iterator ≡ 3;
      left : length (each row_line (clauses_of l.clauses)) ≡ l.sum + length (each row_line (clauses_of (chunks_exact_rest l.row-iterator)));
    }
