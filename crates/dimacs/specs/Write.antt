-- The lines of a DIMACS text, part after part as they are written, and the answer once the clauses are read. Assumes nothing.
use Rattle.std.specs.Prelude.{cond, List, [], ◌∷◌, ◌++◌, ℕ, leb, length}
use Rattle.definitions.specs.Answer.{Answer, finding, ask, ◌>>=◌}
use Rattle.definitions.specs.Literal.{positive}
use Rattle.definitions.specs.Groups.{Written}
use Rattle.definitions.specs.Text.{decimal, line}
use Rattle.definitions.specs.Dimacs.{head_bytes, literal_word, row_fields, dimacs_text}

-- what stands before the variable of a literal
unfoldable pub minus_of : ℕ → List ℕ
minus_of l = cond (positive l) [] (45 ∷ [])

-- a literal and the space after it
unfoldable pub literal_field : ℕ → List ℕ
literal_field l = literal_word l ++ (32 ∷ [])

-- the line of a row
unfoldable pub row_line : List ℕ → List ℕ
row_line f = line (row_fields f)

-- the header line of N atoms and k rows
unfoldable pub head_line : ℕ → ℕ → List ℕ
head_line N k = line (head_bytes ∷ decimal N ∷ decimal k ∷ [])

-- question 26 of a text, and the finding
unfoldable pub text_answer : ℕ → List (List ℕ) → ℕ → Answer Written
text_answer N C target = do
  let text = dimacs_text N C
  _ ← ask 26 (leb (length text) target)
  finding (record { count = length text; words = text })
