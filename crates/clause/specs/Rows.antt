-- The clauses of clause words, row after row, and words whose questions 8 and 9 are answered yes. Assumes nothing.
use Rattle.std.specs.Prelude.{◌≡◌, Bool, true, ◌&&◌, List, map, ℕ, ◌*◌, ◌/◌, ◌%◌, ◌≤◌, ◌<◌, length, take, drop, eqb, leb}
use Rattle.definitions.specs.Lists.{range}
use Rattle.definitions.specs.Answer.{finding}
use Rattle.definitions.specs.Clauses.{width, most_rows, clause_of, clause_right, row_less, row_at, read_clauses, read_clause}

-- whole rows
unfoldable pub row_count : List ℕ → ℕ
row_count w = length w / width

-- question 8: whole rows, no more than a clause buffer can hold
unfoldable pub rows_right : List ℕ → Bool
rows_right w = eqb (length w % width) 0 && leb (length w) (width * most_rows)

-- the clauses of k rows from row i on
unfoldable pub clauses_in : List ℕ → ℕ → ℕ → List (List ℕ)
clauses_in w i k = map (λ j. clause_of (row_at w j)) (range i k)

-- the clauses of clause words
unfoldable pub clauses_of : List ℕ → List (List ℕ)
clauses_of w = clauses_in w 0 (row_count w)

-- the clause of the row that starts at a word
unfoldable pub clause_at : List ℕ → ℕ → List ℕ
clause_at w at = clause_of (take width (drop at w))

-- the clauses whose rows start at a word or after it
unfoldable pub clauses_from : List ℕ → ℕ → List (List ℕ)
clauses_from w at = clauses_of (drop at w)

-- questions 8 and 9 are answered yes
pub record ClausesRead (atoms : ℕ) (w : List ℕ) : Type 0 where
  pub read : read_clauses atoms w ≡ finding (clauses_of w)

-- a clause alone: questions 8 and 9 are answered yes
pub record ClauseRead (atoms : ℕ) (row : List ℕ) : Type 0 where
  pub wide : length row ≡ width
  pub right : clause_right atoms row ≡ true
  pub read : read_clause atoms row ≡ finding (clause_of row)

-- whole rows, strictly ascending
pub record Ascending (w : List ℕ) : Type 0 where
  pub whole : length w % width ≡ 0
  pub less : (i j : ℕ) → i < j → j < row_count w → row_less (row_at w i) (row_at w j) ≡ true

-- strictly ascending rows, each of them right
pub record RightRows (atoms : ℕ) (w : List ℕ) : Type 0 where
  pub ascending : Ascending w
  pub right : (i : ℕ) → i < row_count w → clause_right atoms (row_at w i) ≡ true

-- k words come before the fill
pub record Counted (row : List ℕ) (k : ℕ) : Type 0 where
  pub inside : k ≤ length row
  pub clause : take k row ≡ clause_of row
