-- `fdr_image::block::are_rows`: the test of all rows is the test of those that are left.
use Prim.Native.Nat.{◌≤◌}
use mathlib.Core.Path.{◌≡◌, refl, sym, ◌∙◌}
use native.Mathlib.Omega.{arith}
use lib.ListN.{length, drop}
use Rattle.definitions.specs.FdrImage.{domains_in, fdr_rows_of}
use Rattle.fdr_image.specs.Walk.{rows_right}
use Rattle.fdr_image.proofs.RowLaws.{rows_cut, rows_wrong, rows_right_lem, rows_end}
use borrow.Author.Rules.{rules}
use Rattle.fdr_image.proofs.block.are_rows.Statement.{statement}
use Rattle.fdr_image.proofs.block.are_rows.Tie as tie

abbrev invariant-loop : tie.invariant-loop-left
invariant-loop domains block from rows at₀ left₀ at left =
    (at ≤ length block)
    × (rows_right (domains_in domains) (fdr_rows_of rows (drop from block)) ≡ rows_right (domains_in domains) (fdr_rows_of left (drop at block)))

abbrev decreases-loop : tie.decreases-loop-left
decreases-loop domains block from rows at₀ left₀ at left = left

-- where a row was tested: its words, the loop, and the start
abbrev row_of : tie.After-is_row invariant-loop decreases-loop → tie.After-row_at-kind invariant-loop decreases-loop
row_of c = c.before.before

abbrev in_of : tie.After-row_at-kind invariant-loop decreases-loop → tie.In-loop-left invariant-loop decreases-loop
in_of c = c.before.before.before

abbrev start : tie.At-loop-left invariant-loop decreases-loop → tie.Start invariant-loop decreases-loop
start c = c.before.before.before

loop-holds : tie.Need-loop-left-init invariant-loop decreases-loop
loop-holds c = (c.requires, refl)

is-whole-requires : tie.Need-is_whole-requires invariant-loop decreases-loop
is-whole-requires c κs = c.loop-left.invariant.0

returns : tie.Need-returns-then-not-is_whole invariant-loop decreases-loop
returns c =
    let i = c.before.before in
    let l = i.before in
    sym
    (l.loop-left.invariant.1
    ∙ rows_cut _ (start l).args.block.now l.loop-left.at l.loop-left.left i.loop-left-test.true
    (sym c.is_whole.ensures ∙ c.if-not-is_whole.true))

row-at-requires : tie.Need-row_at-kind-requires invariant-loop decreases-loop
row-at-requires c κs = sym c.is_whole.ensures ∙ c.if-not-is_whole.false

mul-is-row : tie.Need-offset_bounds-block-from invariant-loop decreases-loop
mul-is-row c = search rules

sub-is-row : tie.Need-slice_bounds-is_row-count invariant-loop decreases-loop
sub-is-row c = search rules

part-is-row-start : tie.Need-slice_bounds-is_row-start invariant-loop decreases-loop
part-is-row-start c =
    let r = c.row_at-kind.ensures in
    omega (arith, r.from_is, r.end_is, r.high)

part-is-row-end : tie.Need-slice_bounds-is_row-end invariant-loop decreases-loop
part-is-row-end c =
    let r = c.row_at-kind.ensures in
    omega (arith, r.high)

is-row-requires : tie.Need-is_row-requires invariant-loop decreases-loop
is-row-requires c κs = search rules

returns-2 : tie.Need-returns-then-not-is_row invariant-loop decreases-loop
returns-2 c =
    let t = c.before in
    let r = row_of t in
    let i = in_of r in
    let l = i.before in
    sym
    (l.loop-left.invariant.1
    ∙ rows_wrong _ (start l).args.block.now l.loop-left.at l.loop-left.left i.loop-left-test.true _ _ _ _ _ r.row_at-kind.ensures _ t.is_row.ensures
    (c.if-not-is_row.true))

sub-left : tie.Need-overflow_sub-left invariant-loop decreases-loop
sub-left c = search rules

loop-less : tie.Need-loop-left-smaller invariant-loop decreases-loop
loop-less c = search rules

loop-again : tie.Need-loop-left-preserved invariant-loop decreases-loop
loop-again c =
    let t = c.before in
    let r = row_of t in
    let i = in_of r in
    let l = i.before in (
      r.row_at-kind.ensures.high,
      l.loop-left.invariant.1
          ∙ rows_right_lem _ (start l).args.block.now l.loop-left.at l.loop-left.left i.loop-left-test.true _ _ _ _ _ r.row_at-kind.ensures _ t.is_row.ensures
          (c.if-not-is_row.false),
    )

returns-3 : tie.Need-returns invariant-loop decreases-loop
returns-3 c =
    let l = c.before in
    rows_end _ (start l).args.block.now l.loop-left.at l.loop-left.left (omega arith) l.loop-left.invariant.0 ∙ sym l.loop-left.invariant.1

pub are_rows_spec : {M : Type 1} → statement M
are_rows_spec =
    tie.close
    (tie.spec
    invariant-loop
    decreases-loop
    loop-holds
    is-whole-requires
    returns
    row-at-requires
    mul-is-row
    sub-is-row
    part-is-row-start
    part-is-row-end
    is-row-requires
    returns-2
    sub-left
    loop-less
    loop-again
    returns-3)
