-- The test of all clauses is the test of those that are left.
use Rattle.std.proofs.Common.{◌≡◌}
use Rattle.std.specs.Slice.Iter.{chunks_exact_rest, chunks_exact_size}
use Rattle.definitions.specs.Lists.{any, member}
use Rattle.definitions.specs.Clauses.{width}
use Rattle.clause.specs.Rows.{clauses_of}
use Rattle.judge.proofs.bulk.some_holds.Given as goal

abbrev pub invariant-loop-row : goal.invariant-loop-row
invariant-loop-row l = record {
  size : chunks_exact_size l.row-iterator ≡ width;
  rest : any (member l.l) (clauses_of l.judged) ≡ any (member l.l) (clauses_of (chunks_exact_rest l.row-iterator));
}
