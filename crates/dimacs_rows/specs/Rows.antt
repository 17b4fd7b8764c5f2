-- Rows stored in a buffer, and the set that they make. Assumes nothing.
use Rattle.std.specs.Prelude.{◌≡◌, List, [], ◌∷◌, ◌++◌, Option, Some, None, ℕ, ◌+◌, ◌*◌, ◌/◌, ◌≤◌, ◌<◌, length, take}
use Rattle.definitions.specs.Clauses.{width, most_rows, clause_of}
use Rattle.definitions.specs.Synthesis.{insert_all}
use Rattle.clause.specs.Rows.{clauses_of}
use Rattle.row_sort.specs.Sorted.{Sortable}

-- rows that a buffer has room for
unfoldable pub most_stored : ℕ
most_stored = most_rows + most_rows / 4

-- a buffer for the rows, and another to sort them
pub record Buffers (w spare : List ℕ) : Type 0 where
  pub rows : length w ≡ width * most_stored
  pub work : length spare ≡ width * most_stored

-- what is stored lies in the buffer, and each row is right
pub record Rows (w : List ℕ) (k : ℕ) : Type 0 where
  pub inside : k ≤ most_stored
  pub right : Sortable (take (width * k) w)

abbrev pub Fit : List ℕ → Option ℕ → Type 0
Fit w (Some k) = Rows w k
Fit w None = Unit {0}

-- the rows that are stored make the same set as the clauses, or that has more than a clause set may have
abbrev pub Makes : List ℕ → Option ℕ → List (List ℕ) → Type 0
Makes w (Some k) E = insert_all (clauses_of (take (width * k) w)) [] ≡ insert_all E []
Makes w None E = most_rows < length (insert_all E [])

-- one row more is stored
pub record Stores (row old : List ℕ) (stored : Option ℕ) (new : List ℕ) (r : Option ℕ) : Type 0 where
  pub fit : Fit new r
  pub makes : (E : List (List ℕ)) → Makes old stored E → Makes new r (E ++ (clause_of row ∷ []))
