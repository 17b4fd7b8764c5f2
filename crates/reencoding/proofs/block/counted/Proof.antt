use Rattle.reencoding.specs.Words.{counted_by}
use mathlib.Core.Path.{◌∙◌}
use native.Mathlib.Omega.{arith}
use lib.ListN.{length-set}
use Rattle.writing.proofs.Writes.{wrote_word}
use Rattle.reencoding.proofs.WordLaws.{counted_length, literals_length}
use borrow.Author.Rules.{rules}
use Rattle.reencoding.proofs.block.counted.Statement.{statement}
use Rattle.reencoding.proofs.block.counted.Tie as tie

cast-target : tie.Need-overflow_cast-target
cast-target c = search rules

mul-target : tie.Need-offset_bounds-target-at
mul-target c = search rules

slice-write-target : tie.Need-bounds-target-at
slice-write-target c =
    omega (
      arith,
      c.requires.0.room,
      counted_length c.args.places.now c.args.list.now,
    )

add-literals : tie.Need-overflow_add-at
add-literals c = search rules

-- the places of the function
abbrev at_start : tie.After-shared_slice_known-1 → tie.Start
at_start c = c.before

abbrev after_shared_slice_known : tie.After-literals-arg-1 → tie.After-shared_slice_known-1
after_shared_slice_known c = c.before.before.before

literals-requires : tie.Need-literals-requires
literals-requires c κs =
    let s = at_start (after_shared_slice_known c) in
    let r = s.requires.0.room in
    let a = counted_length s.args.places.now s.args.list.now in
    let b = literals_length s.args.places.now s.args.list.now in
    (record { low = s.requires.0.low; room = simp length-set (omega arith) }, s.requires.1)

same_length : tie.Need-shape_of-target
same_length c = c.literals.auto.target ∙ simp length-set

returns : tie.Need-returns
unfolding counted_by
returns c = wrote_word c.literals.ensures

pub counted_spec : {M : Type 1} → statement M
counted_spec =
    tie.close
    (tie.spec
    cast-target
    mul-target
    slice-write-target
    add-literals
    literals-requires
    same_length
    returns)
