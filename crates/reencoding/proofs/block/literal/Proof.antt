use Prim.Native.Nat.{◌+◌, ◌*◌, ◌≤◌, ◌<◌}
use native.Mathlib.Omega.{arith}
use lib.ListN.{length, length-set}
use Rattle.writing.proofs.Writes.{wrote_same, wrote_pair}
use Rattle.reencoding.proofs.WordLaws.{literal_inside, literal_length, literal_words}
use borrow.Author.Rules.{rules}
use Rattle.reencoding.proofs.block.literal.Statement.{statement}
use Rattle.reencoding.proofs.block.literal.Tie as tie

room : (s : tie.Start) → s.args.at + 2 ≤ length s.args.target.now
room s =
    let r = s.requires.0.room in
    let e = literal_length s.args.places.now s.args.l.code in
    omega arith

-- the atom is known: its variable and value stand within the places
abbrev start : tie.After-atom-a → tie.Start
start c = c.before.before.before

inside : (c : tie.After-atom-a) → 2 * c.atom-a.result + 1 < length c.args.places.now
inside c =
    let e = c.atom-a.ensures in
    let h = literal_inside c.args.places.now c.args.l.code c.requires.1 in
    omega arith

-- where the second word is made
abbrev atom : tie.After-shared_slice_known-3-1 → tie.After-atom-a
atom c = c.before.before.before

abbrev begun : tie.After-shared_slice_known-3-1 → tie.Start
begun c = start (atom c)

atom-requires : tie.Need-atom-a-requires
atom-requires c κs = search rules

sign-requires : tie.Need-sign-negative-requires
sign-requires c κs = search rules

mul-target : tie.Need-overflow_mul-target
mul-target c = let h = inside c.before in omega arith

mul-target-2 : tie.Need-offset_bounds-places-a
mul-target-2 c = let h = inside c.before in omega arith

shared-slice-read-target : tie.Need-bounds-places-a
shared-slice-read-target c = let h = inside c.before.before in omega arith

mul-target-3 : tie.Need-offset_bounds-target-at
mul-target-3 c = let h = room (start c.before.before) in omega arith

slice-write-target : tie.Need-bounds-target-at
slice-write-target c = let h = room (start c.before.before) in omega arith

mul-target-4 : tie.Need-overflow_mul-target-2
mul-target-4 c = let h = inside c.before.before in omega arith

add-target : tie.Need-overflow_add-target
add-target c = let h = inside c.before.before in omega arith

mul-target-5 : tie.Need-offset_bounds-places-a-2
mul-target-5 c = let h = inside c.before.before in omega arith

shared-slice-read-target-2 : tie.Need-bounds-places-a-2
shared-slice-read-target-2 c = let h = inside c.before.before.before in omega arith

mul-target-6 : tie.Need-overflow_mul-target-3
mul-target-6 c = let v = c.requires.0.low (2 * c.atom-a.result + 1) in omega arith

add-target-2 : tie.Need-overflow_add-target-2
add-target-2 c =
    let v = c.requires.0.low (2 * c.atom-a.result + 1) in
    let s = c.sign-negative.ensures in
    omega arith

add-target-3 : tie.Need-overflow_add-target-3
add-target-3 c = let h = room (begun c) in omega arith

mul-target-7 : tie.Need-offset_bounds-target-at-2
mul-target-7 c = let h = room (begun c) in omega arith

slice-write-target-2 : tie.Need-bounds-target-at-2
slice-write-target-2 c = let h = room (begun c) in simp length-set (omega arith)

add-result : tie.Need-overflow_add-result
add-result c = let h = room (begun c) in omega arith

same_length : tie.Need-shape_of-target
same_length c = simp length-set

returns : tie.Need-returns
returns c =
    let a = c.atom-a in
    wrote_same (literal_words _ _ a.result _ a.ensures c.sign-negative.ensures) (wrote_pair _ _ _ _)

pub literal_spec : {M : Type 1} → statement M
literal_spec =
    tie.close
    (tie.spec
    atom-requires
    sign-requires
    mul-target
    mul-target-2
    shared-slice-read-target
    mul-target-3
    slice-write-target
    mul-target-4
    add-target
    mul-target-5
    shared-slice-read-target-2
    mul-target-6
    add-target-2
    add-target-3
    mul-target-7
    slice-write-target-2
    add-result
    same_length
    returns)
