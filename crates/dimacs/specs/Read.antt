-- The answer of reading, question by question once the image is read. Assumes nothing.
use Rattle.std.specs.Prelude.{true, ◌&&◌, ◌≡◌, List, ℕ, ◌*◌, leb, length}
use Rattle.definitions.specs.Lists.{all}
use Rattle.definitions.specs.Answer.{Answer, finding, ask, ◌>>=◌}
use Rattle.definitions.specs.Clauses.{width, most_rows, clause_words}
use Rattle.definitions.specs.Groups.{Written}
use Rattle.definitions.specs.Dimacs.{is_dimacs, clauses_in, fits_row, distinct}
use Rattle.dimacs_rows.specs.Collected.{Set}

-- questions 25 and 26 of the clauses of a text, and the finding
unfoldable pub rows_answer : List (List ℕ) → ℕ → Answer Written
rows_answer D target = do
  _ ← ask 25 (all fits_row D)
  let C = distinct D
  _ ← ask 26 (leb (length C) most_rows && leb (width * length C) target)
  finding (record { count = length C; words = clause_words C })

-- questions 24 to 26 of a text, and the finding
unfoldable pub form_answer : ℕ → List ℕ → ℕ → Answer Written
form_answer N text target = do
  _ ← ask 24 (is_dimacs N text)
  rows_answer (clauses_in text) target

-- question 25 is answered yes, and the rows are those of the clauses, equal ones once
pub record RowsRead (D : List (List ℕ)) (w : List ℕ) (k : ℕ) : Type 0 where
  pub fits : all fits_row D ≡ true
  pub set : Set (distinct D) w k
