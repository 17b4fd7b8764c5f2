-- The words of rows and operators whose atoms follow others, and what writing them asks. Assumes nothing.
use Rattle.std.specs.Prelude.{◌≡◌, true, List, ℕ, ◌+◌, ◌-◌, ◌*◌, ◌≤◌, length}
use Rattle.definitions.specs.Lists.{each}
use Rattle.definitions.specs.Literal.{most_atoms, most_literals, all_below}
use Rattle.definitions.specs.Image.{most_image, Row, Operator, row_right}
use Rattle.definitions.specs.TaskWords.{row_words, operator_words}
use Rattle.definitions.specs.Join.{shifted_row, shifted_operator}
use Rattle.task.specs.Walk.{row}

-- behind n atoms
unfoldable pub rows_behind : ℕ → List Row → List ℕ
rows_behind n rs = each (λ r. row_words (shifted_row n r)) rs

unfoldable pub operator_behind : ℕ → Operator → List ℕ
operator_behind n o = operator_words (shifted_operator n o)

unfoldable pub operators_behind : ℕ → List Operator → List ℕ
operators_behind n os = each (operator_behind n) os

-- numbers that stay below the most literals when they are higher by k
pub record NumbersGiven (k : ℕ) (list : List ℕ) : Type 0 where
  pub few : k ≤ most_literals
  pub low : all_below (most_literals - k) list ≡ true

-- literals of the atoms that are left behind n: their count and they are words, for which there is room
pub record CountedGiven (n : ℕ) (list target : List ℕ) (at : ℕ) : Type 0 where
  pub few : n ≤ most_atoms
  pub low : all_below (2 * (most_atoms - n)) list ≡ true
  pub short : length list ≤ most_image
  pub room : at + (1 + length list) ≤ length target

-- a row over those atoms, for which there is room
pub record RowGiven (n effect : ℕ) (conditions target : List ℕ) (at : ℕ) : Type 0 where
  pub few : n ≤ most_atoms
  pub right : row_right (most_atoms - n) (row effect conditions) ≡ true
  pub short : length conditions ≤ most_image
  pub room : at + (2 + length conditions) ≤ length target
