-- `next_set::weaken::weaken_rows`: what the row at the place adds is put in, what the rows after it add is left.
use Prim.Native.Nat.{◌-◌, ◌+◌}
use native.Mathlib.Omega.{arith}
use Rattle.clause.specs.Rows.{row_count, clauses_of}
use Rattle.clause.proofs.RowPlaces.{at_row, has_next, placed_next}
use Rattle.clause_set.proofs.Extended.{range_left, range_done}
use Rattle.clause_set.proofs.Pending.{pending_on, pending_full, pending_end}
use Rattle.next_set.specs.Build.{added_row}
use Rattle.next_set.proofs.weaken.weaken_rows.Goals as goal

pub returns-in_err-taken : goal.returns-in_err-taken
returns-in_err-taken c =
    let a = c.args in
    let l = c.loop-place in
    let i = l.place.number in
    let n = row_count a.clauses.now in
    let left = range_left (added_row (clauses_of a.clauses.now) a.flags.now a.list.now a.k) i (n - i) (n - (i + 1)) (omega (arith, c.requires.0.flagged)) in
    rw c.from_residual.ensures (pending_full _ _ _ _ _ l.invariant.pending _ _ left _ _ c.weaken_row.ensures c.in_err-taken.was)

pub next-place-requires : goal.next-place-requires
next-place-requires c = has_next (at_row c.loop-place.invariant.placed (omega (arith, c.requires.0.flagged))) c.well_formed.0.0

pub loop-place-preserved : goal.loop-place-preserved
loop-place-preserved c =
    let a = c.args in
    let l = c.loop-place in
    let i = l.place.number in
    let n = row_count a.clauses.now in
    let left = range_left (added_row (clauses_of a.clauses.now) a.flags.now a.list.now a.k) i (n - i) (n - (i + 1)) (omega (arith, c.requires.0.flagged)) in
    record {
      placed = placed_next (at_row l.invariant.placed (omega (arith, c.requires.0.flagged))) c.next-place.ensures;
      pending = rw c.next-place.ensures.number (pending_on _ _ _ _ _ l.invariant.pending _ _ left _ _ c.weaken_row.ensures _ c.in_ok-taken.was);
    }

pub returns : goal.returns
returns c =
    let a = c.args in
    let l = c.loop-place in
    let i = l.place.number in
    let added = added_row (clauses_of a.clauses.now) a.flags.now a.list.now a.k in
    let none = range_done added i (row_count a.clauses.now - i) (omega (arith, c.requires.0.flagged)) in
    (l.invariant.pending.room, pending_end _ _ _ _ _ l.invariant.pending none)
