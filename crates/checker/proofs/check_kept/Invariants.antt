-- The operators below `operator` are judged.
use Rattle.std.proofs.Common.{◌≡◌, length}
use Rattle.task.specs.Reads.{task_of}
use Rattle.clause.specs.Rows.{clauses_of}
use Rattle.checker.specs.Search.{Searched}
use Rattle.checker.proofs.check_kept.Given as goal

abbrev pub invariant-loop-operator : goal.invariant-loop-operator
invariant-loop-operator l = record {
  counted : l.count ≡ length (clauses_of l.clauses);
  searched : Searched (task_of l.image) (clauses_of l.clauses) l.operator l.low l.under;
}
