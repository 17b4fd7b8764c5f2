-- `dimacs_rows::rows::store_sorted`: the rows are sorted; then there are too many, or there is room.
use Rattle.std.proofs.Common.{◌≡◌, List, ℕ, ◌*◌, take, length, sym, subst, arith}
use lib.Seq.{take_all}
use Rattle.definitions.specs.Clauses.{width, most_rows}
use Rattle.row_sort.specs.Sorted.{Sortable, Sorted}
use Rattle.dimacs_rows.specs.Rows.{most_stored}
use Rattle.dimacs_rows.proofs.RowsLaws.{sorted_rows, stored_full, stored_sorted}
use Rattle.dimacs_rows.proofs.rows.store_sorted.Goals as goal

-- a full buffer is all of its rows
whole : (w : List ℕ) → length w ≡ width * most_stored → take (width * most_stored) w ≡ w
whole w e = take_all (width * most_stored) w (omega arith)

sorted_of : (w new : List ℕ) (k : ℕ) → length w ≡ width * most_stored → Sorted w new k → Sorted (take (width * most_stored) w) new k
sorted_of w new k e s = subst (λ (z : List ℕ). Sorted z new k) (sym (whole w e)) s

pub sort-kept-requires : goal.sort-kept-requires
sort-kept-requires c =
    let p = c.requires in
    let a = p.1.rows in
    let b = p.1.work in
    (subst Sortable (whole _ a) p.2.right, omega arith)

pub returns-then-kept-gt-MOST_ROWS : goal.returns-then-kept-gt-MOST_ROWS
unfolding most_rows
returns-then-kept-gt-MOST_ROWS c =
    let s = c.args in
    stored_full s.row.now s.rows.now c.sort-kept.new.rows c.sort-kept.result most_stored (sorted_of _ _ _ c.requires.1.rows c.sort-kept.ensures) _
    c.if-kept-gt-MOST_ROWS.true

pub append-requires : goal.append-requires
unfolding most_stored most_rows
append-requires c =
    let p = c.requires in
    let s = c.sort-kept.ensures in
    let size = s.size in
    let long = p.1.rows in
    (p.0, sorted_rows _ _ _ s long, omega (arith, c.if-kept-gt-MOST_ROWS.false), omega arith)

pub returns : goal.returns
returns c =
    let s = c.args in
    let k = c.sort-kept in
    stored_sorted s.row.now s.rows.now k.new.rows k.result most_stored (sorted_of _ _ _ c.requires.1.rows k.ensures) _ _ c.append.ensures
