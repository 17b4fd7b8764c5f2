-- `card::line::write_clauses`: the lines of the rows that are left are left to be written.
use Rattle.std.proofs.Common.{◌≡◌}
use Rattle.std.specs.Slice.Iter.{chunks_exact_rest, chunks_exact_size}
use Rattle.definitions.specs.Lists.{each}
use Rattle.clause.specs.Rows.{clauses_of}
use Rattle.writing.specs.Writing.{Writing}
use Rattle.definitions.specs.Card.{clause_line}
use Rattle.card.proofs.line.write_clauses.Given as goal

abbrev pub invariant-loop-row : goal.invariant-loop-row
invariant-loop-row l =
    record {
      wide : chunks_exact_size l.row-iterator ≡ 3;
      left : Writing l.initial.out l.at (each clause_line (clauses_of l.clauses)) l.out l.to (each clause_line (clauses_of (chunks_exact_rest l.row-iterator)));
    }
