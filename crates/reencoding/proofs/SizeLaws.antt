-- Sizes: what an operator of a block becomes, and that an operator of L words becomes 2L - 2 words. Assumes nothing.
use mathlib.Core.Path.{◌≡◌, refl}
use mathlib.Core.List.{List, [], ◌∷◌}
use Prim.Native.Nat.{ℕ, ◌+◌, ◌*◌}
use native.Mathlib.Omega.{arith}
use lib.ListN.{length, length-append}
use Rattle.definitions.specs.Lists.{each}
use Rattle.definitions.specs.Image.{Row, Operator, rows_size, operator_size}
use Rattle.reencoding.specs.Words.{counted_by, row_by, rows_by, operator_by}
use Rattle.reencoding.proofs.WordLaws.{counted_length, row_length}

-- ---- the words that an operator becomes
rows_length : (places : List ℕ) (rs : List Row) → length (rows_by places rs) ≡ 2 * rows_size rs
unfolding rows_size rows_by each
rows_length places [] = refl
rows_length places (r ∷ rs) =
    let a = length-append (row_by places r) (rows_by places rs) in
    let c = row_length places r.effect r.conditions in
    let d = rows_length places rs in
    omega arith

pub operator_length : (places : List ℕ) (o : Operator) → length (operator_by places o) + 2 ≡ 2 * operator_size o
unfolding operator_by operator_size
operator_length places o =
    let a = length-append (counted_by places o.precondition) (length o.rows ∷ rows_by places o.rows) in
    let c = counted_length places o.precondition in
    let d = rows_length places o.rows in
    omega arith
