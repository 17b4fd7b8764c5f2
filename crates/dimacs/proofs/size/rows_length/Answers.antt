-- `dimacs::size::rows_length`: the bytes of the line of the first row of those left.
use Rattle.std.proofs.Common.{◌∙◌, ap, length, arith}
use Rattle.std.specs.Slice.Iter.{chunks_exact_rest}
use Rattle.definitions.specs.Clauses.{width, most_rows}
use Rattle.dimacs.proofs.Parts.{rows_sum, row_short, rows_end, rows_size_lem}
use Rattle.dimacs.proofs.size.rows_length.Goals as goal

pub row_length-sum-requires : goal.row_length-sum-requires
unfolding width
row_length-sum-requires c =
    let s = c.in-Some.ensures.steps in
    row_short _ _ (s.1.1 ∙ c.loop-row.invariant.wide) c.literals.ensures

pub overflow_add-sum : goal.overflow_add-sum
unfolding width most_rows
overflow_add-sum c =
    let s = c.in-Some.ensures.steps in
    let i = c.loop-row.invariant in
    let e = rows_sum _ _ (s.1.1 ∙ i.wide) c.literals.ensures _ _ s.1.0 _ _ _ i.left c.row_length-sum.ensures in
    let most = rows_size_lem c.args.clauses.now c.requires in
    omega arith

pub loop-row-preserved : goal.loop-row-preserved
unfolding width
loop-row-preserved c =
    let s = c.in-Some.ensures.steps in
    let i = c.loop-row.invariant in
    record { wide = s.0 ∙ i.wide; left = rows_sum _ _ (s.1.1 ∙ i.wide) c.literals.ensures _ _ s.1.0 _ _ _ i.left c.row_length-sum.ensures }

pub returns : goal.returns
unfolding width
returns c =
    let i = c.loop-row.invariant in
    let over = c.in-None.ensures.steps.1.0 in
    let none = ap length (rows_end (chunks_exact_rest c.loop-row.row-iterator) (omega (arith, over, i.wide))) in
    omega (arith, i.left)
