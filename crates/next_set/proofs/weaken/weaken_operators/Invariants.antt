use mathlib.Core.Option.{some}
use lib.ListN.{drop}
use Rattle.definitions.specs.Lists.{each}
use Rattle.clause.specs.Rows.{clauses_of}
use Rattle.task.specs.Reads.{task_of}
use Rattle.clause_set.specs.Put.{put_all}
use Rattle.clause_set.specs.Held.{held}
use Rattle.clause_set.proofs.Pending.{Pending}
use Rattle.next_set.specs.Build.{added_by, added_at}
use Rattle.next_set.proofs.weaken.weaken_operators.Given as goal

-- what the operators from `operator` on add is to be put in
abbrev pub invariant-loop-operator : goal.invariant-loop-operator
invariant-loop-operator l =
    let t = task_of l.image in
    Pending l.rows (each (added_by t (clauses_of l.clauses) l.k) (drop l.operator t.operators))
    (put_all l.rows (added_at t (clauses_of l.clauses) l.k) (some (held l.fn.count l.fn.work))) l.taken l.work
