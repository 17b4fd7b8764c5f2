-- What the walks over an image and over a block work out. Assumes nothing.
use Rattle.std.specs.Prelude.{ℕ, ◌+◌, List, [], Bool, true, false, ◌&&◌, leb, length, get_or, drop}
use Rattle.std.proofs.Math.Option.{Option, none, some}
use Rattle.definitions.specs.Lists.{all, ascending}
use Rattle.definitions.specs.Answer.{Answer, refuse, verdict, ask, ask_at, ◌>>=◌}
use Rattle.definitions.specs.Literal.{most_atoms, all_below, literal_list}
use Rattle.definitions.specs.Image.{most_image, most_operators, Row, Operator, part, directory, row_right, rows_of, operator_of, read_operators}
use Rattle.definitions.specs.Step.{no_operator}

-- question 1
unfoldable pub size_right : List ℕ → Bool
size_right w = leb 6 (length w) && leb (length w) most_image

-- question 2
unfoldable pub counts_right : List ℕ → Bool
counts_right w = leb 1 (get_or w 0 0) && leb (get_or w 0 0) most_atoms && leb (get_or w 1 0) most_operators

-- questions 4 to 7, of an image with N atoms and M operators
unfoldable pub lists_answer : List ℕ → ℕ → ℕ → Answer (Unit {0})
lists_answer w N M = do
  _ ← ask 4 (ascending (part w 0) && all_below N (part w 0))
  _ ← ask 5 (literal_list N (part w 1))
  verdict (read_operators N w 0 M)

-- questions 3 to 7
unfoldable pub parts_answer : List ℕ → Answer (Unit {0})
parts_answer w = do
  _ ← ask 3 (directory w (get_or w 1 0 + 2))
  lists_answer w (get_or w 0 0) (get_or w 1 0)

abbrev pub row : ℕ → List ℕ → Row
row e cs = record { effect = e; conditions = cs }

-- questions 6 and 7 of operator i, where `ok` says whether its lists so far are right, and the rows left are rs,
-- or none where their counts do not end at the block's end
unfoldable pub rows_verdict : ℕ → ℕ → Bool → Option (List Row) → Answer (Unit {0})
rows_verdict N i ok none = refuse 6 i 0
rows_verdict N i ok (some rs) = ask_at 7 i (ok && all (row_right N) rs)

-- whether a block parses, and the operator in it
unfoldable pub some_operator : Option Operator → Bool
some_operator none = false
some_operator (some o) = true

unfoldable pub operator_or : Option Operator → Operator
operator_or none = no_operator
operator_or (some o) = o

unfoldable pub block_parses : List ℕ → Bool
block_parses b = some_operator (operator_of b)

unfoldable pub operator_in : List ℕ → Operator
operator_in b = operator_or (operator_of b)

-- the walk of a block's rows, with k rows left at p: whether they parse, and the rows
unfoldable pub some_rows : Option (List Row) → Bool
some_rows none = false
some_rows (some rs) = true

unfoldable pub rows_or : Option (List Row) → List Row
rows_or none = []
rows_or (some rs) = rs

unfoldable pub parses_at : List ℕ → ℕ → ℕ → Bool
parses_at b p k = some_rows (rows_of k (drop p b))

unfoldable pub rows_at : List ℕ → ℕ → ℕ → List Row
rows_at b p k = rows_or (rows_of k (drop p b))
