-- The rows that are left are rows of the operator, and set what flags are still to come.
use Rattle.std.proofs.Common.{◌≡◌, true, List, ℕ, length}
use Rattle.definitions.specs.Image.{operator_right}
use Rattle.task.specs.Walk.{operator_in}
use Rattle.task.specs.Rows.{rows_left}
use Rattle.propagation.specs.Marks.{Marked}
use Rattle.judge.specs.Judging.{flag_effects}
use Rattle.judge.proofs.BlockRows.{Left}
use Rattle.judge.proofs.guarantee.flag_effects.Given as goal

abbrev pub invariant-loop-effect : goal.invariant-loop-effect
invariant-loop-effect l =
    (length l.flags ≡ length l.fn.flags)
    × ((atoms : ℕ) (K : List ℕ) → operator_right atoms (operator_in l.block) ≡ true → Marked atoms l.marks K
    → Left atoms (operator_in l.block) (rows_left l.effect-iterator)
    × (flag_effects l.adds K (operator_in l.block).rows l.fn.flags ≡ flag_effects l.adds K (rows_left l.effect-iterator) l.flags))
