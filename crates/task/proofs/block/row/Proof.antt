use Prim.Native.Nat.{◌+◌, ◌≤◌}
use native.Mathlib.Omega.{arith}
use lib.ListN.{length}
use Rattle.task.proofs.Blocks.{row_room, row_read}
use borrow.Author.Rules.{rules}
use Rattle.task.proofs.block.row.Statement.{statement}
use Rattle.task.proofs.block.row.Tie as tie

-- where the effect was read, and the start
abbrev start : tie.After-wide → tie.Start
start c = c.before.before.before

abbrev effect_of : tie.After-wide-2 → tie.After-wide
effect_of c = c.before.before

room : (s : tie.Start) → s.args.at + 2 ≤ length s.args.block.now
room s = row_room _ _ _ s.requires.0 s.requires.1

add-from : tie.Need-overflow_add-from
add-from c = omega (arith, room c.before)

mul_wide : tie.Need-offset_bounds-block-at
mul_wide c = omega (arith, room c.before)

shared-slice-read-wide : tie.Need-bounds-block-at
shared-slice-read-wide c = omega (arith, room c.before.before)

wide-requires : tie.Need-wide-requires
wide-requires c κs = search rules

add_wide : tie.Need-overflow_add-at
add_wide c = omega (arith, room (start c))

mul-wide-2 : tie.Need-offset_bounds-block-at-2
mul-wide-2 c = omega (arith, room (start c))

shared-slice-read-wide-2 : tie.Need-bounds-block-at-2
shared-slice-read-wide-2 c = omega (arith, room (start c.before))

wide-requires-2 : tie.Need-wide-requires-2
wide-requires-2 c κs = search rules

add-t14 : tie.Need-overflow_add-result
add-t14 c = omega (arith, room (start (effect_of c)))

returns : tie.Need-returns
returns c =
    let e = effect_of c in
    let s = start e in
    row_read _ _ _ s.requires.0 s.requires.1 _ _ e.wide.ensures.0 c.wide-2.ensures.0 e.wide.ensures.1

pub row_spec : {M : Type 1} → statement M
row_spec =
    tie.close
    (tie.spec
    add-from
    mul_wide
    shared-slice-read-wide
    wide-requires
    add_wide
    mul-wide-2
    shared-slice-read-wide-2
    wide-requires-2
    add-t14
    returns)
