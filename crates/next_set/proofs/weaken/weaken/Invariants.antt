use Rattle.std.proofs.Common.{◌-◌}
use mathlib.Core.Option.{some}
use Rattle.definitions.specs.Lists.{each, range}
use Rattle.clause.specs.Rows.{clauses_of}
use Rattle.task.specs.Reads.{task_of}
use Rattle.clause_set.specs.Put.{put_all}
use Rattle.clause_set.specs.Held.{held}
use Rattle.clause_set.proofs.Pending.{Pending}
use Rattle.next_set.specs.Build.{added_at, added_from}
use Rattle.next_set.proofs.weaken.weaken.Given as goal

-- what is added for the clauses of `k` literals or more is to be put in
abbrev pub invariant-loop-k : goal.invariant-loop-k
invariant-loop-k l =
    let t = task_of l.image in
    Pending l.rows (each (added_at t (clauses_of l.clauses)) (range l.k (l.most - l.k)))
    (put_all l.rows (added_from t (clauses_of l.clauses) 1 (l.most - 1)) (some (held l.fn.count l.fn.work))) l.taken l.work
