-- Places of rows: number times width is the position. Assumes nothing.
use Rattle.std.specs.Prelude.{◌≡◌, List, ℕ, ◌+◌, ◌*◌, ◌^◌, ◌≤◌, ◌<◌}
use Rattle.definitions.specs.Clauses.{width}
use Rattle.clause.specs.Rows.{row_count}
use Rattle.clause.specs.declared.place.RowPlace.{RowPlace}

-- the place of row n
pub record At (n : ℕ) (p : RowPlace) : Type 0 where
  pub number : p.number ≡ n
  pub position : p.at ≡ width * n

-- the place of a row of the words, or the one after their last row
pub record Placed (w : List ℕ) (p : RowPlace) : Type 0 where
  pub position : p.at ≡ width * p.number
  pub inside : p.number ≤ row_count w

-- the place of a row of the words
pub record AtRow (w : List ℕ) (p : RowPlace) : Type 0 where
  pub position : p.at ≡ width * p.number
  pub inside : p.number < row_count w

-- a place whose next one has a position below 2 ^ 64
pub record HasNext (p : RowPlace) : Type 0 where
  pub position : p.at ≡ width * p.number
  pub fits : p.at + width < 2 ^ 64

-- a place that is not the first
pub record HasPrevious (p : RowPlace) : Type 0 where
  pub position : p.at ≡ width * p.number
  pub some_row : 0 < p.number
