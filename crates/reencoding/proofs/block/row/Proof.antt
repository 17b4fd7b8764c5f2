-- `reencoding::block::row`: three words, then the conditions.
use Prim.Native.Nat.{◌≤◌, ◌+◌, ◌<◌, ◌*◌}
use mathlib.Core.Path.{◌∙◌}
use native.Mathlib.Omega.{arith}
use lib.ListN.{length, length-set}
use Rattle.writing.proofs.Writes.{wrote_same, wrote_three}
use Rattle.definitions.proofs.ReadLaws.{row_conditions}
use Rattle.reencoding.proofs.WordLaws.{row_inside, row_length, row_words_lem, counted_length}
use borrow.Author.Rules.{rules}
use Rattle.reencoding.proofs.block.row.Statement.{statement}
use Rattle.reencoding.proofs.block.row.Tie as tie

-- where atom and sign of the effect are known: the start
abbrev known : tie.After-sign-clears → tie.After-slice_known-1
known c = c.before.before

abbrev start : tie.After-sign-clears → tie.Start
start c = (known c).before.before.before

room : (c : tie.After-sign-clears) → let a = (start c).args in a.at + 4 ≤ length a.target.now
room c =
    let a = (start c).args in
    omega (arith, (start c).requires.0.room, row_length a.places.now a.effect.code a.conditions.now)

inside : (c : tie.After-sign-clears) → 2 * c.atom-a.result + 1 < length (start c).args.places.now
inside c = omega (arith, c.atom-a.ensures, row_inside _ _ (start c).requires.1)

-- where the conditions are written
abbrev signed : tie.After-counted-arg-1 → tie.After-sign-clears
signed c = c.before.before.before

atom-requires : tie.Need-atom-a-requires
atom-requires c κs = search rules

sign-requires : tie.Need-sign-clears-requires
sign-requires c κs = search rules

mul-target : tie.Need-offset_bounds-target-at
mul-target c = search rules

slice-write-target : tie.Need-bounds-target-at
slice-write-target c = omega (arith, room c)

mul-target-2 : tie.Need-overflow_mul-target
mul-target-2 c = omega (arith, inside c)

mul-target-3 : tie.Need-offset_bounds-places-a
mul-target-3 c = omega (arith, inside c)

shared-slice-read-target : tie.Need-bounds-places-a
shared-slice-read-target c = omega (arith, inside c.before)

add-target : tie.Need-overflow_add-target
add-target c = search rules

mul-target-4 : tie.Need-offset_bounds-target-at-2
mul-target-4 c = search rules

slice-write-target-2 : tie.Need-bounds-target-at-2
slice-write-target-2 c = simp length-set (omega (arith, room c.before))

mul-target-5 : tie.Need-overflow_mul-target-2
mul-target-5 c = omega (arith, inside c.before)

add-target-2 : tie.Need-overflow_add-target-2
add-target-2 c = omega (arith, inside c.before)

mul-target-6 : tie.Need-offset_bounds-places-a-2
mul-target-6 c = omega (arith, inside c.before)

shared-slice-read-target-2 : tie.Need-bounds-places-a-2
shared-slice-read-target-2 c = omega (arith, inside c.before.before)

add-target-3 : tie.Need-overflow_add-target-3
add-target-3 c = search rules

mul-target-7 : tie.Need-offset_bounds-target-at-3
mul-target-7 c = search rules

slice-write-target-3 : tie.Need-bounds-target-at-3
slice-write-target-3 c = simp length-set (omega (arith, room c.before.before))

add-counted : tie.Need-overflow_add-at
add-counted c = search rules

counted-requires : tie.Need-counted-requires
counted-requires c κs =
    let s = start (signed c) in
    let r = s.requires.0.room in
    let a = row_length s.args.places.now s.args.effect.code s.args.conditions.now in
    let b = counted_length s.args.places.now s.args.conditions.now in
    (record { low = s.requires.0.low; room = simp length-set (omega arith) }, row_conditions _ _ s.requires.1, s.requires.2)

same_length : tie.Need-shape_of-target
same_length c = c.counted.auto.target ∙ simp length-set

returns : tie.Need-returns
returns c =
    let d = c.before.before in
    let k = signed d.before in
    wrote_same (row_words_lem _ _ _ _ _ k.atom-a.ensures k.sign-clears.ensures) (wrote_three d.counted.ensures)

pub row_spec : {M : Type 1} → statement M
row_spec =
    tie.close
    (tie.spec
    atom-requires
    sign-requires
    mul-target
    slice-write-target
    mul-target-2
    mul-target-3
    shared-slice-read-target
    add-target
    mul-target-4
    slice-write-target-2
    mul-target-5
    add-target-2
    mul-target-6
    shared-slice-read-target-2
    add-target-3
    mul-target-7
    slice-write-target-3
    add-counted
    counted-requires
    same_length
    returns)
