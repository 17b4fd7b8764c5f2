-- The lines of a DIMACS text part after part, and their bytes. Assumes nothing.
use mathlib.Core.Path.{◌≡◌, refl, sym, ◌∙◌, ap}
use mathlib.Core.Bool.{Bool, true, false}
use mathlib.Core.List.{List, [], ◌∷◌, ◌++◌, map, append_assoc, Memᴰ}
use Prim.Native.Nat.{ℕ, suc, ◌+◌, ◌*◌, ◌≤◌, ◌<◌}
use native.Mathlib.Omega.{arith}
use native.Mathlib.Nat.{mul-le-mul_left}
use lib.ListN.{length, get_or, drop, length-append}
use lib.Seq.{take_at, drop_at}
use Rattle.definitions.specs.Lists.{each}
use Rattle.definitions.specs.Literal.{atom, positive}
use Rattle.definitions.specs.Clauses.{width, most_rows, clause_of, row_at}
use Rattle.definitions.specs.Text.{digits, decimal, line}
use Rattle.definitions.specs.Dimacs.{head_bytes, literal_word, row_fields, dimacs_text}
use Rattle.clause.specs.Rows.{row_count, clauses_of}
use Rattle.clause.proofs.RowLaws.{row_length, clauses_length, clause_of_lem, clauses_step, clauses_none}
use Rattle.definitions.proofs.RowsRead.{clause_short}
use Rattle.text.proofs.Lines.{line_more, each_next, each_end}
use Rattle.text.proofs.Size.{decimal_most, each_size}
use Rattle.dimacs.specs.Write.{minus_of, literal_field, row_line, head_line}

-- ---- literals
pub atom_low : (l : ℕ) → atom l ≤ l
unfolding atom
atom_low l = omega arith

pub minus_none : (l : ℕ) → positive l ≡ true → minus_of l ≡ []
unfolding minus_of
minus_none l e = rw e

pub minus_one : (l : ℕ) → positive l ≡ false → minus_of l ≡ 45 ∷ []
unfolding minus_of
minus_one l e = rw e

pub literal_parts : (l : ℕ) → literal_word l ≡ minus_of l ++ decimal (atom l + 1)
unfolding literal_word minus_of
literal_parts l = go (positive l) refl
  where
    go : (b : Bool) → positive l ≡ b → literal_word l ≡ minus_of l ++ decimal (atom l + 1)
    go true e = rw (e, literal_word, minus_of)
    go false e = rw (e, literal_word, minus_of)

-- its bytes, by those of its variable
pub literal_plain : (l v d : ℕ) → v ≡ atom l + 1 → d ≡ length (decimal v) → positive l ≡ true → d ≡ length (literal_word l)
literal_plain l v d at e h = e ∙ rw (literal_parts l, minus_none l h, at)

pub literal_minus : (l v d : ℕ) → v ≡ atom l + 1 → d ≡ length (decimal v) → positive l ≡ false → d + 1 ≡ length (literal_word l)
literal_minus l v d at e h =
    let q : length (literal_word l) ≡ suc (length (decimal v)) = rw (literal_parts l, minus_one l h, at) in
    omega arith

-- the number of its variable has at most 20 digits
pub digits_few : (v d : ℕ) → d ≡ length (decimal v) → d ≤ 20
digits_few v d e = let m = decimal_most v in omega arith

minus_size : (l : ℕ) → length (minus_of l) ≤ 1
unfolding minus_of
minus_size l = go (positive l) refl
  where
    go : (b : Bool) → positive l ≡ b → length (minus_of l) ≤ 1
    go true e = rw (minus_none l e) (omega arith)
    go false e = rw (minus_one l e) (omega arith)

-- with its space
pub field_bytes : (l d : ℕ) → d ≡ length (literal_word l) → d + 1 ≡ length (literal_field l)
unfolding literal_field
field_bytes l d e = let a = length-append (literal_word l) (32 ∷ []) in omega arith

field_size : (l : ℕ) → length (literal_field l) ≤ 22
field_size l =
    let a = field_bytes l (length (literal_word l)) refl in
    let b = ap length (literal_parts l) in
    let c = length-append (minus_of l) (decimal (atom l + 1)) in
    let d = minus_size l in
    let e = decimal_most (atom l + 1) in
    omega arith

-- ---- rows
-- each literal and a space, then 0 and the line's end
pub row_parts : (f : List ℕ) → row_line f ≡ each literal_field f ++ (48 ∷ 10 ∷ [])
unfolding row_line row_fields each literal_field decimal line digits
row_parts [] = refl
row_parts (l ∷ f) =
    line_more (literal_word l) (decimal 0) (map literal_word f)
    ∙ ap (λ (z : List ℕ). literal_word l ++ (32 ∷ z)) (row_parts f)
    ∙ sym
    (append_assoc (literal_word l ++ (32 ∷ [])) (each literal_field f) (48 ∷ 10 ∷ [])
    ∙ append_assoc (literal_word l) (32 ∷ []) (each literal_field f ++ (48 ∷ 10 ∷ [])))

-- the literals from i on, each with a space, then 0 and the line's end
unfoldable pub literals_from : ℕ → List ℕ → List ℕ
literals_from i f = each literal_field (drop i f) ++ (48 ∷ 10 ∷ [])

pub row_start : (f : List ℕ) → row_line f ≡ literals_from 0 f
unfolding literals_from
row_start f = row_parts f

module _ (f : List ℕ) (i : ℕ) where
  pub row_next : i < length f → literals_from i f ≡ literal_word (get_or f i 0) ++ (32 ∷ literals_from (i + 1) f)
  unfolding literals_from literal_field
  row_next h = rw (each_next literal_field f i 0 (get_or f i 0) refl h) (simp append_assoc)

  pub row_end : length f ≤ i → literals_from i f ≡ 48 ∷ 10 ∷ []
  unfolding literals_from
  row_end h = rw (each_end literal_field f i h)

pub row_bytes : (f : List ℕ) → length (row_line f) ≡ 2 + length (each literal_field f)
row_bytes f = let e = ap length (row_parts f) in let a = length-append (each literal_field f) (48 ∷ 10 ∷ []) in omega arith

pub row_size : (f : List ℕ) → length f ≤ width → length (row_line f) ≤ 22 * width + 2
row_size f h =
    let a = row_bytes f in
    let b = each_size literal_field 22 f (λ l m. field_size l) in
    let c = mul-le-mul_left 22 h in
    omega arith

-- ---- all rows
module _ (w : List ℕ) where
  pub clause_width : (i : ℕ) → i < row_count w → length (clause_of (row_at w i)) ≤ width
  clause_width i h = let a = clause_short (row_at w i) in let b = row_length w i h in omega arith

  line_most : (f : List ℕ) → Memᴰ f (clauses_of w) → length (row_line f) ≤ 22 * width + 2
  line_most f m = let p = clause_of_lem w f m in row_size f (rw p.same (clause_width p.row p.inside))

  pub rows_size_lem : row_count w ≤ most_rows → length (each row_line (clauses_of w)) ≤ (22 * width + 2) * most_rows
  rows_size_lem few =
      let a = each_size row_line (22 * width + 2) (clauses_of w) line_most in
      let b = clauses_length w in
      let c = mul-le-mul_left (22 * width + 2) few in
      omega (arith, ap (λ (k : ℕ). (22 * width + 2) * k) b)

-- ---- row after row: the rows left are v, of which `row` is the first, and its clause is f
module _ (row f : List ℕ) (wide : length row ≡ width) (is : f ≡ clause_of row) where
  pub row_short : length f ≤ width
  row_short = let a = clause_short row in let b = ap length is in omega arith

  module _ (v rest : List ℕ) (parts : v ≡ row ++ rest) where
    pub rows_next : each row_line (clauses_of v) ≡ row_line f ++ each row_line (clauses_of rest)
    unfolding each
    rows_next =
        let size = length-append row rest in
        let first = clauses_step (row ++ rest) (omega arith) in
        rw (parts, first, take_at row rest width wide, drop_at row rest width wide, is)

    pub rows_sum :
        (whole n bytes : ℕ) → whole ≡ n + length (each row_line (clauses_of v)) → bytes ≡ length (row_line f)
        → whole ≡ n + bytes + length (each row_line (clauses_of rest))
    rows_sum whole n bytes e q =
        let a = ap length rows_next in
        let b = length-append (row_line f) (each row_line (clauses_of rest)) in
        omega arith

pub rows_end : (v : List ℕ) → length v < width → each row_line (clauses_of v) ≡ []
unfolding each
rows_end v h = rw (clauses_none v h)

-- ---- the header and the text
pub head_parts : (N k : ℕ) → head_line N k ≡ (head_bytes ++ (32 ∷ decimal N)) ++ ((32 ∷ decimal k) ++ (10 ∷ []))
unfolding head_line line
head_parts N k = simp append_assoc

pub head_bytes_lem : (N k a b : ℕ) → a ≡ length (decimal N) → b ≡ length (decimal k) → 8 + a + b ≡ length (head_line N k)
unfolding head_bytes
head_bytes_lem N k a b p q =
    let e = ap length (head_parts N k) in
    let x = length-append (head_bytes ++ (32 ∷ decimal N)) ((32 ∷ decimal k) ++ (10 ∷ [])) in
    let y = length-append (32 ∷ decimal k) (10 ∷ []) in
    omega arith

pub head_size : (N k : ℕ) → length (head_line N k) ≤ 48
head_size N k =
    let e = head_bytes_lem N k (length (decimal N)) (length (decimal k)) refl refl in
    let a = decimal_most N in
    let b = decimal_most k in
    omega arith

pub text_parts : (N k : ℕ) (C : List (List ℕ)) → k ≡ length C → dimacs_text N C ≡ head_line N k ++ each row_line C
unfolding dimacs_text head_line row_line
text_parts N k C e = rw e

pub text_bytes :
    (N k h r : ℕ) (w : List ℕ) → k ≡ row_count w → h ≡ length (head_line N k) → r ≡ length (each row_line (clauses_of w))
    → h + r ≡ length (dimacs_text N (clauses_of w))
text_bytes N k h r w e p q =
    let s = ap length (text_parts N k (clauses_of w) (e ∙ sym (clauses_length w))) in
    let a = length-append (head_line N k) (each row_line (clauses_of w)) in
    omega arith
