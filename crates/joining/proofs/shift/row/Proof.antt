-- `joining::shift::row`: the effect, then the conditions.
use mathlib.Core.Path.{◌∙◌}
use native.Mathlib.Omega.{arith}
use lib.ListN.{length-set}
use Rattle.writing.proofs.Writes.{wrote_same, wrote_word}
use Rattle.joining.proofs.ShiftLaws.{effect_low, conditions_given, row_words_lem}
use borrow.Author.Rules.{rules}
use Rattle.joining.proofs.shift.row.Statement.{statement}
use Rattle.joining.proofs.shift.row.Tie as tie

-- the start, from where the effect is stored
abbrev start : tie.After-counted-arg-1 → tie.Start
start c = c.before.before.before

mul-target : tie.Need-overflow_mul-target
mul-target c = search rules

add-target : tie.Need-overflow_add-target
add-target c = omega (arith, effect_low c.requires)

mul-target-2 : tie.Need-offset_bounds-target-at
mul-target-2 c = search rules

slice-write-target : tie.Need-bounds-target-at
slice-write-target c = search rules

add-counted : tie.Need-overflow_add-at
add-counted c = search rules

counted-requires : tie.Need-counted-requires
counted-requires c κs = conditions_given (start c).requires (simp length-set)

same_length : tie.Need-shape_of-target
same_length c = c.counted.auto.target ∙ simp length-set

returns : tie.Need-returns
returns c = wrote_same (row_words_lem _ _ _) (wrote_word c.counted.ensures)

pub row_spec : {M : Type 1} → statement M
row_spec =
    tie.close
    (tie.spec
    mul-target
    add-target
    mul-target-2
    slice-write-target
    add-counted
    counted-requires
    same_length
    returns)
