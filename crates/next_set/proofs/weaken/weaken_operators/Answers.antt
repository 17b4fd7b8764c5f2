-- `next_set::weaken::weaken_operators`: what an operator adds is put in, what the operators after it add is left.
use mathlib.Core.Path.{refl}
use Prim.Native.Nat.{◌<◌}
use lib.ListN.{length}
use native.Mathlib.Omega.{arith}
use Rattle.definitions.specs.Step.{no_operator, operator_at}
use Rattle.clause.specs.Rows.{clauses_of}
use Rattle.task.specs.Reads.{task_of}
use Rattle.clause_set.proofs.Extended.{each_left, each_done}
use Rattle.clause_set.proofs.Pending.{pending_start, pending_on, pending_full, pending_end}
use Rattle.next_set.specs.Build.{added_by, added_at}
use Rattle.next_set.proofs.weaken.weaken_operators.Goals as goal

pub loop-operator-init : goal.loop-operator-init
unfolding added_at
loop-operator-init c = pending_start _ _ _ _ c.requires.1

pub returns-in_err-taken : goal.returns-in_err-taken
unfolding operator_at
returns-in_err-taken c =
    let a = c.args in
    let l = c.loop-operator in
    let t = task_of a.image.now in
    let more : l.operator < length t.operators = omega (arith, c.operators-operator-end.ensures.0) in
    let left = each_left (added_by t (clauses_of a.clauses.now) a.k) t.operators l.operator no_operator (operator_at t l.operator) refl more in
    rw c.from_residual.ensures (pending_full _ _ _ _ _ l.invariant _ _ left _ _ c.weaken_operator.ensures c.in_err-taken.was)

pub loop-operator-preserved : goal.loop-operator-preserved
unfolding operator_at
loop-operator-preserved c =
    let a = c.args in
    let l = c.loop-operator in
    let t = task_of a.image.now in
    let more : l.operator < length t.operators = omega (arith, c.operators-operator-end.ensures.0) in
    let left = each_left (added_by t (clauses_of a.clauses.now) a.k) t.operators l.operator no_operator (operator_at t l.operator) refl more in
    pending_on _ _ _ _ _ l.invariant _ _ left _ _ c.weaken_operator.ensures _ c.in_ok-taken.was

pub returns : goal.returns
returns c =
    let a = c.args in
    let l = c.loop-operator in
    let t = task_of a.image.now in
    let done = each_done (added_by t (clauses_of a.clauses.now) a.k) t.operators l.operator (omega (arith, c.operators-operator-end.ensures.0)) in
    (l.invariant.room, pending_end _ _ _ _ _ l.invariant done)
