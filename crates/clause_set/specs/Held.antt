-- A set of clauses in the first rows of a buffer. Assumes nothing.
use Rattle.std.specs.Prelude.{Bool, true, List, ◌≡◌, ℕ, ◌*◌, ◌≤◌, ◌<◌, length, take}
use Rattle.std.proofs.Math.Option.{Option, none, some}
use Rattle.definitions.specs.Literal.{most_atoms}
use Rattle.definitions.specs.Clauses.{width, most_rows, clause_right, GoodClause}
use Rattle.clause.specs.Rows.{clauses_of, RightRows}
use Rattle.std.specs.Prelude as std

-- the clauses of the first k rows
unfoldable pub held : ℕ → List ℕ → List (List ℕ)
held k w = clauses_of (take (width * k) w)

-- k of `rows` rows of a buffer are a set in row order
pub record Room (rows k : ℕ) (w : List ℕ) : Type 0 where
  pub inside : k ≤ rows
  pub few : rows ≤ most_rows
  pub room : width * rows ≤ length w
  pub right : RightRows most_atoms (take (width * k) w)

-- the row of a clause
pub record ClauseRow (row : List ℕ) : Type 0 where
  pub wide : length row ≡ width
  pub right : clause_right most_atoms row ≡ true

-- a clause that can have one literal more
pub record Extensible (f : List ℕ) : Type 0 where
  pub good : GoodClause most_atoms width f
  pub short : length f < width

-- what the buffer holds is the set that is to be built, if that fits
abbrev pub Holds : ℕ → std.Option ℕ → List ℕ → Option (List (List ℕ)) → Type 0
Holds rows (std.Some k) w s = Room rows k w × (s ≡ some (held k w))
Holds rows std.None w s = s ≡ none
