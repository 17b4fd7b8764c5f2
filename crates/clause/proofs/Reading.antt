-- The walk over the rows, questions 8 and 9. Assumes nothing.
use mathlib.Core.Path.{◌≡◌, refl}
use mathlib.Core.Bool.{Bool, true, false, ◌&&◌}
use mathlib.Core.List.{List, ◌∷◌}
use Prim.Native.Nat.{ℕ, zero, suc, ◌+◌, ◌-◌, ◌*◌, ◌%◌, ◌≤◌}
use native.Mathlib.Numerals.{add-one}
use native.Mathlib.Omega.{arith}
use lib.Dec.{eqb}
use lib.ListN.{length}
use borrow.Author.Tests.{eq-eqb, le-leb}
use Rattle.definitions.specs.Answer.{Answer, finding, verdict, ask, ask_at, ◌>>=◌}
use Rattle.definitions.specs.Clauses.{width, most_rows, clause_of, clause_right, row_less, row_at, above_last, read_rows, read_clauses, read_clause}
use Rattle.answer.proofs.Laws.{verdict_bind}
use Rattle.clause.specs.Rows.{row_count, rows_right}

-- ---- above the last
pub above_first : (w : List ℕ) (i : ℕ) → i ≡ 0 → true ≡ above_last w i
unfolding above_last
above_first w i e = rw e

pub above_next : (w a b : List ℕ) (i : ℕ) → (i ≡ 0 → ⊥) → a ≡ row_at w (i - 1) → b ≡ row_at w i → row_less a b ≡ above_last w i
unfolding above_last
above_next w a b zero h p q = absurd (h refl)
above_next w a b (suc i) h p q = let e : suc i - 1 ≡ i = omega arith in rw (p, q, e)

-- ---- what is found after a question does not change its verdict
module _ (q i : ℕ) where
  asked_then :
      {A B : Type 0} (b : Bool) (m : Answer A) (f : A → B)
      → verdict (ask_at q i b >>= λ _. m >>= λ a. finding (f a)) ≡ (ask_at q i b >>= λ _. verdict m)
  unfolding verdict ask_at ◌>>=◌
  asked_then true m f = verdict_bind m f
  asked_then false m f = refl

  asked_last : {A : Type 0} (b : Bool) (a : A) → verdict (ask_at q i b >>= λ _. finding a) ≡ ask_at q i b
  unfolding verdict ask_at ◌>>=◌
  asked_last true a = refl
  asked_last false a = refl

-- ---- question 9 of row i, then of the rows after it; k rows are left
module _ (N : ℕ) (w : List ℕ) (i k k' : ℕ) (more : k ≡ suc k') where
  pub rows_asked :
      verdict (read_rows N w i k) ≡ (ask_at 9 i (clause_right N (row_at w i) && above_last w i) >>= λ _. verdict (read_rows N w (i + 1) k'))
  unfolding read_rows
  rows_asked =
      rw (more, add-one)
      (asked_then 9 i (clause_right N (row_at w i) && above_last w i) (read_rows N w (suc i) k') (λ C. clause_of (row_at w i) ∷ C))

pub rows_end : (N : ℕ) (w : List ℕ) (i k : ℕ) → k ≡ 0 → verdict (read_rows N w i k) ≡ finding tt
unfolding read_rows verdict
rows_end N w i k h = rw h

-- ---- question 8
module _ (N : ℕ) (w : List ℕ) where
  -- then question 9 of all rows
  pub clauses_asked : verdict (read_clauses N w) ≡ (ask 8 (rows_right w) >>= λ _. verdict (read_rows N w 0 (row_count w)))
  unfolding read_clauses verdict ask ask_at ◌>>=◌ rows_right row_count
  clauses_asked = go (rows_right w)
    where
      go :
          (b : Bool)
          → verdict (ask 8 b >>= λ _. read_rows N w 0 (row_count w)) ≡ (ask 8 b >>= λ _. verdict (read_rows N w 0 (row_count w)))
      go true = refl
      go false = refl

  pub read_start : length w % width ≡ 0 → length w ≤ width * most_rows → read_clauses N w ≡ read_rows N w 0 (row_count w)
  unfolding read_clauses ask ask_at ◌>>=◌ row_count
  read_start h l = rw (eq-eqb (length w % width) 0 h, le-leb (length w) (width * most_rows) l)

  -- a clause alone
  pub clause_asked : verdict (read_clause N w) ≡ (ask 8 (eqb (length w) width) >>= λ _. ask 9 (clause_right N w))
  unfolding read_clause verdict ask ask_at ◌>>=◌
  clause_asked = go (eqb (length w) width)
    where
      go :
          (b : Bool)
          → verdict (ask 8 b >>= λ _. ask_at 9 0 (clause_right N w) >>= λ _. finding (clause_of w)) ≡ (ask 8 b >>= λ _. ask 9 (clause_right N w))
      go true = asked_last 9 0 (clause_right N w) (clause_of w)
      go false = refl
