-- `joining::shift::counted`: the count, then the literals.
use mathlib.Core.Path.{◌∙◌}
use native.Mathlib.Omega.{arith}
use lib.ListN.{length-set}
use Rattle.writing.proofs.Writes.{wrote_same, wrote_word}
use Rattle.joining.proofs.ShiftLaws.{counted_numbers, counted_words_lem}
use borrow.Author.Rules.{rules}
use Rattle.joining.proofs.shift.counted.Statement.{statement}
use Rattle.joining.proofs.shift.counted.Tie as tie

-- the start, from where the count is stored
abbrev start : tie.After-numbers-arg-1 → tie.Start
start c = c.before.before.before

cast-target : tie.Need-overflow_cast-target
cast-target c = search rules

mul-target : tie.Need-offset_bounds-target-at
mul-target c = search rules

slice-write-target : tie.Need-bounds-target-at
slice-write-target c = search rules

add-numbers : tie.Need-overflow_add-at
add-numbers c = search rules

mul-numbers : tie.Need-overflow_mul-before
mul-numbers c = search rules

numbers-requires : tie.Need-numbers-requires
numbers-requires c κs = let g = (start c).requires in (counted_numbers g, simp length-set (omega (arith, g.room)))

same_length : tie.Need-shape_of-target
same_length c = c.numbers.auto.target ∙ simp length-set

returns : tie.Need-returns
returns c = wrote_same (counted_words_lem _ _) (wrote_word c.numbers.ensures)

pub counted_spec : {M : Type 1} → statement M
counted_spec =
    tie.close
    (tie.spec
    cast-target
    mul-target
    slice-write-target
    mul-numbers
    add-numbers
    numbers-requires
    same_length
    returns)
