-- `dimacs_rows::finish`: the rows are sorted, and counted.
use Rattle.std.proofs.Common.{◌*◌, ◌++◌, drop, ℕ, Option, [], sym, subst, arith}
use lib.Seq.{length-take-le}
use Rattle.definitions.specs.Clauses.{width, most_rows}
use Rattle.definitions.specs.Synthesis.{insert_all}
use Rattle.dimacs_rows.specs.Rows.{Makes}
use Rattle.dimacs_rows.specs.Collected.{Comes}
use Rattle.dimacs_rows.proofs.RowsLaws.{stored_rows, stored_inside, comes_kept}
use Rattle.dimacs_rows.proofs.finish.Goals as goal

pub overflow_mul-end : goal.overflow_mul-end
unfolding width
overflow_mul-end c = let p = c.requires in let h = stored_inside (stored_rows c.in_ok-count.was p.1) p.0.rows in omega arith

pub slice_bounds-sort-end : goal.slice_bounds-sort-end
unfolding width
slice_bounds-sort-end c = let p = c.requires in stored_inside (stored_rows c.in_ok-count.was p.1) p.0.rows

pub slice_bounds-sort-end-2 : goal.slice_bounds-sort-end-2
unfolding width
slice_bounds-sort-end-2 c =
    let p = c.requires in
    sym (length-take-le (width * c.in_ok-count.count) c.args.rows.now (stored_inside (stored_rows c.in_ok-count.was p.1) p.0.rows))

pub sort-kept-requires : goal.sort-kept-requires
unfolding width
sort-kept-requires c =
    let p = c.requires in
    let r = stored_rows c.in_ok-count.was p.1 in
    let h = stored_inside r p.0.rows in
    let a = p.0.rows in
    let b = p.0.work in
    let l = length-take-le (width * c.in_ok-count.count) c.args.rows.now h in
    (r.right, omega arith)

pub returns : goal.returns
unfolding width most_rows
returns c =
    let w = c.args.rows.now in
    let rest = drop (3 * c.in_ok-count.count) w in
    λ E e.
    subst (λ (r : Option ℕ). Comes (insert_all E []) (c.sort-kept.new.rows ++ rest) r) (sym c.then_some.ensures)
    (comes_kept w c.sort-kept.new.rows c.sort-kept.result c.in_ok-count.count c.sort-kept.ensures rest E
    (subst (λ (z : Option ℕ). Makes w z E) c.in_ok-count.was e))
