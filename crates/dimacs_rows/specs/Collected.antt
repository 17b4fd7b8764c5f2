-- The clauses of a text from a place on, as rows. Assumes nothing.
use Rattle.std.specs.Prelude.{true, false, ◌≡◌, List, [], Option, Some, None, Result, Ok, Err, ℕ, ◌*◌, ◌≤◌, ◌<◌, length, take}
use Rattle.definitions.specs.Lists.{all}
use Rattle.definitions.specs.Clauses.{width, most_rows, clause_words}
use Rattle.definitions.specs.Synthesis.{insert_all}
use Rattle.definitions.specs.Dimacs.{fits_row, distinct}
use Rattle.dimacs_rows.specs.Reading.{clauses_at}
use Rattle.dimacs_rows.specs.Rows.{Makes}
use Rattle.dimacs_rows.specs.declared.Unread.{Unread}
use Rattle.dimacs_rows.specs.declared.Unread.TheVariants.{Unfit, Full}

-- the first k rows are those of the set
pub record Set (C : List (List ℕ)) (w : List ℕ) (k : ℕ) : Type 0 where
  pub few : k ≤ most_rows
  pub count : k ≡ length C
  pub words : take (width * k) w ≡ clause_words C

-- what the set of some clauses comes to
abbrev pub Comes : List (List ℕ) → List ℕ → Option ℕ → Type 0
Comes C w None = most_rows < length C
Comes C w (Some k) = Set C w k

-- the rows that are stored are sorted, equal ones becoming one
abbrev pub Finished : List ℕ → Option ℕ → List ℕ → Option ℕ → Type 0
Finished old stored new r = (E : List (List ℕ)) → Makes old stored E → Comes (insert_all E []) new r

-- question 25 of the clauses from a place on, and their rows
abbrev pub ClausesCollected : List ℕ → ℕ → List ℕ → Result ℕ Unread → Type 0
ClausesCollected text from w (Err Unfit) = all fits_row (clauses_at text from) ≡ false
ClausesCollected text from w (Err Full) =
    (all fits_row (clauses_at text from) ≡ true) × (most_rows < length (distinct (clauses_at text from)))
ClausesCollected text from w (Ok k) =
    (all fits_row (clauses_at text from) ≡ true) × Set (distinct (clauses_at text from)) w k
