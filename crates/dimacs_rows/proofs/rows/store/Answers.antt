-- `dimacs_rows::rows::store`: full stays full; else the row is written, after sorting where there is no room.
use Rattle.std.proofs.Common.{◌≡◌, ◌≤◌, ℕ, Some, sym, ◌∙◌, ap, subst, arith}
use Rattle.definitions.specs.Clauses.{most_rows}
use Rattle.dimacs_rows.specs.Rows.{most_stored, Rows}
use Rattle.dimacs_rows.proofs.RowsLaws.{stored_rows, stores_by, stays_full}
use Rattle.dimacs_rows.proofs.rows.store.Goals as goal

pub returns-in_err-count : goal.returns-in_err-count
returns-in_err-count c = rw c.from_residual.ensures (stores_by (sym c.in_err-count.was) (stays_full _ _ _))

-- a full buffer has as many rows as it has room for
full_count : {w : _} {k : ℕ} → Rows w k → 12500 ≤ k → k ≡ most_stored
unfolding most_stored most_rows
full_count r h = let i = r.inside in omega arith

pub store_sorted-requires : goal.store_sorted-requires
store_sorted-requires c =
    let p = c.requires in
    let r = stored_rows c.in_ok-count.was p.2 in
    (p.0, p.1, subst (λ (k : ℕ). Rows c.args.rows.now k) (full_count r c.if-count-ge-MOST_STORED.true) r)

pub returns-then-count-ge-MOST_STORED : goal.returns-then-count-ge-MOST_STORED
returns-then-count-ge-MOST_STORED c =
    let e = full_count (stored_rows c.in_ok-count.was c.requires.2) c.if-count-ge-MOST_STORED.true in
    stores_by (sym (c.in_ok-count.was ∙ ap (λ (k : ℕ). Some k) e)) c.store_sorted.ensures

pub append-requires : goal.append-requires
unfolding most_stored most_rows
append-requires c =
    let p = c.requires in
    (p.0, stored_rows c.in_ok-count.was p.2, omega (arith, c.if-count-ge-MOST_STORED.false), p.1.rows)

pub returns : goal.returns
returns c = stores_by (sym c.in_ok-count.was) c.append.ensures
