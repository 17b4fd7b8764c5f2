-- Clauses to and from DIMACS CNF (document 02 §1; questions 24 to 26). Assumes nothing.
use Rattle.std.specs.Prelude.{Bool, true, false, not, ◌&&◌, ◌||◌, cond, List, [], ◌∷◌, ◌++◌, map, ℕ, ◌+◌, ◌-◌, ◌*◌, eqb, leb, length, get_or, take, drop}
use Rattle.definitions.specs.Lists.{all, keep, empty, each, member, compare_words, is_same}
use Rattle.definitions.specs.Answer.{Answer, finding, ask, ◌>>=◌}
use Rattle.definitions.specs.Literal.{atom, positive}
use Rattle.definitions.specs.Image.{read_task}
use Rattle.definitions.specs.Clauses.{width, most_rows, clause_words, read_clauses}
use Rattle.definitions.specs.Synthesis.{insert_literal, insert_all}
use Rattle.definitions.specs.Groups.{Written}
use Rattle.definitions.specs.Text.{decimal, line}

-- ---- written out
-- "p cnf"
unfoldable pub head_bytes : List ℕ
head_bytes = 112 ∷ 32 ∷ 99 ∷ 110 ∷ 102 ∷ []

-- a literal: atom a is variable a+1, with a minus if it is false
unfoldable pub literal_word : ℕ → List ℕ
literal_word l = elim (positive l) [ true ↦ decimal (atom l + 1) | false ↦ 45 ∷ decimal (atom l + 1) ]

-- the fields of a row: its literals in order and 0
unfoldable pub row_fields : List ℕ → List (List ℕ)
row_fields f = map literal_word f ++ (decimal 0 ∷ [])

-- the header line, then a line per row
unfoldable pub dimacs_text : ℕ → List (List ℕ) → List ℕ
dimacs_text N C = line (head_bytes ∷ decimal N ∷ decimal (length C) ∷ []) ++ each (λ f. line (row_fields f)) C

-- writing: image, clause words, bytes of the target; questions 1-9, then 26
unfoldable pub write_dimacs : List ℕ → List ℕ → ℕ → Answer Written
write_dimacs w c target = do
  t ← read_task w
  C ← read_clauses t.atoms c
  let text = dimacs_text t.atoms C
  _ ← ask 26 (leb (length text) target)
  finding (record { count = length text; words = text })

-- ---- lists in parts
module _ {A : Type 0} where
  unfoldable pub onto_first : A → List (List A) → List (List A)
  onto_first x [] = (x ∷ []) ∷ []
  onto_first x (p ∷ ps) = (x ∷ p) ∷ ps

  -- the parts of a list between its marks: one more than there are marks, empty ones too
  unfoldable pub split : (A → Bool) → List A → List (List A)
  split mark [] = [] ∷ []
  split mark (x ∷ xs) = elim (mark x) [ true ↦ [] ∷ split mark xs | false ↦ onto_first x (split mark xs) ]

  -- the parts that a mark ends
  unfoldable pub ended : List (List A) → List (List A)
  ended [] = []
  ended (p ∷ []) = []
  ended (p ∷ (q ∷ ps)) = p ∷ ended (q ∷ ps)

  -- nothing stands behind the last mark
  unfoldable pub all_ended : List (List A) → Bool
  all_ended [] = true
  all_ended (p ∷ []) = empty p
  all_ended (p ∷ (q ∷ ps)) = all_ended (q ∷ ps)

-- ---- a text
-- the text behind its comment lines, each from c to its byte 10; and behind a comment that has begun
unfoldable mutual
  pub behind_comments : List ℕ → List ℕ
  behind_comments [] = []
  behind_comments (b ∷ bs) = elim (eqb b 99) [ true ↦ behind_comment bs | false ↦ b ∷ bs ]

  pub behind_comment : List ℕ → List ℕ
  behind_comment [] = []
  behind_comment (b ∷ bs) = elim (eqb b 10) [ true ↦ behind_comments bs | false ↦ behind_comment bs ]

-- spaces and line ends
unfoldable pub blank : ℕ → Bool
blank b = eqb b 32 || eqb b 10

-- behind the comments stands "p cnf" and a blank
unfoldable pub headed : List ℕ → Bool
headed text =
    let bs = behind_comments text in
    is_same (compare_words (take 5 bs) head_bytes) && blank (get_or bs 5 0)

-- what blanks part
unfoldable pub tokens : List ℕ → List (List ℕ)
tokens bs = keep (λ p. not (empty p)) (split blank bs)

-- ---- numbers of any length
pub record Number : Type 0 where
  pub negative : Bool
  pub size : ℕ

unfoldable pub is_digit : ℕ → Bool
is_digit b = leb 48 b && leb b 57

-- the value of digits behind those of n
unfoldable pub value_behind : ℕ → List ℕ → ℕ
value_behind n [] = n
value_behind n (d ∷ ds) = value_behind (10 * n + (d - 48)) ds

-- digits, the first of them not 0
unfoldable pub is_numeral : List ℕ → Bool
is_numeral [] = false
is_numeral (d ∷ ds) = leb 49 d && leb d 57 && all is_digit ds

-- a number: 0, or a minus or none and digits, the first of them not 0
unfoldable pub is_number : List ℕ → Bool
is_number [] = false
is_number (b ∷ bs) = elim (eqb b 45) [ true ↦ is_numeral bs | false ↦ is_numeral (b ∷ bs) || (eqb b 48 && empty bs) ]

unfoldable pub number_in : List ℕ → Number
number_in [] = record { negative = false; size = 0 }
number_in (b ∷ bs) =
    elim (eqb b 45)
    [ true ↦ record { negative = true; size = value_behind 0 bs } | false ↦ record { negative = false; size = value_behind 0 (b ∷ bs) } ]

-- the words behind "p cnf", and the numbers that they are
unfoldable pub words_in : List ℕ → List (List ℕ)
words_in text = tokens (drop 5 (behind_comments text))

unfoldable pub numbers_in : List ℕ → List Number
numbers_in text = map number_in (words_in text)

-- ---- what the numbers say
unfoldable pub is_zero : Number → Bool
is_zero x = eqb x.size 0

-- the number n
unfoldable pub is_the : ℕ → Number → Bool
is_the n x = not x.negative && eqb x.size n

-- variable a+1 is atom a
unfoldable pub literal_of : Number → ℕ
literal_of x = 2 * (x.size - 1) + cond x.negative 1 0

-- the header's N and count are the task's and the text's, each clause ends in 0, no variable is above N
unfoldable pub says_clauses : ℕ → List Number → Bool
says_clauses N [] = false
says_clauses N (n ∷ []) = false
says_clauses N (n ∷ (k ∷ xs)) =
    let parts = split is_zero xs in
    is_the N n && is_the (length (ended parts)) k && all_ended parts && all (λ x. leb x.size N) xs

-- question 24: the text is of this form
unfoldable pub is_dimacs : ℕ → List ℕ → Bool
is_dimacs N text = headed text && all is_number (words_in text) && says_clauses N (numbers_in text)

-- the clauses of a text, as they stand
unfoldable pub clauses_in : List ℕ → List (List ℕ)
clauses_in text = map (map literal_of) (ended (split is_zero (drop 2 (numbers_in text))))

-- ---- clauses as rows
-- no number stands twice
unfoldable pub none_twice : List ℕ → Bool
none_twice [] = true
none_twice (x ∷ xs) = not (member x xs) && none_twice xs

-- question 25: one literal or more, at most the width, no atom twice
unfoldable pub fits_row : List ℕ → Bool
fits_row f = not (empty f) && leb (length f) width && none_twice (map atom f)

-- literals put into a literal list
unfoldable pub insert_literals : List ℕ → List ℕ → List ℕ
insert_literals [] f = f
insert_literals (l ∷ ls) f = insert_literals ls (insert_literal l f)

unfoldable pub sorted : List ℕ → List ℕ
sorted f = insert_literals f []

-- equal clauses become one, the rows come out sorted
unfoldable pub distinct : List (List ℕ) → List (List ℕ)
distinct D = insert_all (map sorted D) []

-- reading: image, text, words of the target; questions 1-7, then 24, 25 and 26, each over the whole text; the finding gives the number of rows
unfoldable pub read_dimacs : List ℕ → List ℕ → ℕ → Answer Written
read_dimacs w text target = do
  t ← read_task w
  _ ← ask 24 (is_dimacs t.atoms text)
  let D = clauses_in text
  _ ← ask 25 (all fits_row D)
  let C = distinct D
  _ ← ask 26 (leb (length C) most_rows && leb (width * length C) target)
  finding (record { count = length C; words = clause_words C })
