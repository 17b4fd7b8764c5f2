-- `next_set::weaken::weaken`: what is added for the clauses of `k` literals is put in, what is added for longer ones is left.
use Prim.Native.Nat.{◌+◌, ◌-◌}
use native.Mathlib.Omega.{arith}
use Rattle.clause.specs.Rows.{clauses_of}
use Rattle.task.specs.Reads.{task_of}
use Rattle.clause_set.proofs.Extended.{range_left, range_done}
use Rattle.clause_set.proofs.Pending.{pending_start, pending_on, pending_full, pending_end}
use Rattle.next_set.specs.Build.{added_at, added_from}
use Rattle.next_set.proofs.weaken.weaken.Goals as goal

pub loop-k-init : goal.loop-k-init
unfolding added_from
loop-k-init c = pending_start _ _ _ _ c.requires.1

pub returns-in_err-taken : goal.returns-in_err-taken
returns-in_err-taken c =
    let a = c.args in
    let l = c.loop-k in
    let left = range_left (added_at (task_of a.image.now) (clauses_of a.clauses.now)) l.k (a.most - l.k) (a.most - (l.k + 1)) (omega arith) in
    rw c.from_residual.ensures (pending_full _ _ _ _ _ l.invariant _ _ left _ _ c.weaken_operators.ensures c.in_err-taken.was)

pub loop-k-preserved : goal.loop-k-preserved
loop-k-preserved c =
    let a = c.args in
    let l = c.loop-k in
    let left = range_left (added_at (task_of a.image.now) (clauses_of a.clauses.now)) l.k (a.most - l.k) (a.most - (l.k + 1)) (omega arith) in
    pending_on _ _ _ _ _ l.invariant _ _ left _ _ c.weaken_operators.ensures _ c.in_ok-taken.was

pub returns : goal.returns
returns c =
    let a = c.args in
    let l = c.loop-k in
    let done = range_done (added_at (task_of a.image.now) (clauses_of a.clauses.now)) l.k (a.most - l.k) (omega (arith, c.requires.0.some_literal)) in
    (l.invariant.room, pending_end _ _ _ _ _ l.invariant done)
