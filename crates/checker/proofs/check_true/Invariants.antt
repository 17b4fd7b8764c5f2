-- The answer for all clauses is that for the clauses that are left.
use Rattle.std.proofs.Common.{◌≡◌, drop}
use Rattle.definitions.specs.Lists.{first_fail}
use Rattle.definitions.specs.Literal.{holds_in}
use Rattle.clause.specs.Rows.{clauses_of}
use Rattle.clause.proofs.RowWalks.{Walked}
use Rattle.checker.specs.Search.{false_answer}
use Rattle.checker.proofs.check_true.Given as goal

abbrev pub invariant-loop-number : goal.invariant-loop-number
invariant-loop-number l = record {
  walked : Walked l.clauses l.number-iterator.iter l.number-iterator.count;
  rest : false_answer (first_fail (holds_in l.state) l.number-iterator.count (drop l.number-iterator.count (clauses_of l.clauses)))
      ≡ false_answer (first_fail (holds_in l.state) 0 (clauses_of l.clauses));
}
