-- What questions 8 and 9 let through is a right clause set, and its words are those that were read. Assumes nothing.
use mathlib.Core.Bool.{Bool, true, false, not, ◌&&◌, false≢true}
use mathlib.Core.Logic.{◌⊎◌, inl, inr}
use mathlib.Core.Path.{◌≡◌, refl, sym, ◌∙◌, ap, ap₂}
use mathlib.Core.List.Memᴰ
use mathlib.Core.List.{List, [], ◌∷◌, ◌++◌, Memᴰ}
use Prim.Native.Nat.{ℕ, zero, suc, ◌*◌, ◌/◌, ◌%◌, ◌≤◌}
use native.Mathlib.Nat.{mul-suc, mul-zero, div-add-mod, add_comm}
use native.Mathlib.Omega.{arith}
use lib.Dec.{eqb, leb}
use lib.ListN.{length, take, drop, length-take}
use lib.Seq.{take_all, take-add, drop-drop}
use borrow.Author.Tests.{eqb-true, leb-true}
use Rattle.definitions.specs.Lists.{empty, each, compare_words, is_same}
use Rattle.definitions.specs.Answer.{finding, ask_at, ask, ◌>>=◌}
use Rattle.definitions.specs.Literal.{fill, literal_list}
use Rattle.definitions.specs.Clauses.{width, most_rows, row_of, clause_of, clause_words, clause_right, row_at, above_last, read_rows, read_clauses}
use Rattle.definitions.proofs.ListLaws.{and_left, and_right, and_both}
use Rattle.definitions.proofs.OrderLaws.{up, up_from}
use Rattle.definitions.proofs.PlaceLaws.{same_words}
use Rattle.definitions.specs.Clauses.{GoodClause}
use Rattle.definitions.proofs.AnswerLaws.{same_finding, bind_of, ask_of}

-- strictly ascending right rows over N atoms, within question 8
pub record RightSet (N : ℕ) (C : List (List ℕ)) : Type 0 where
  pub clauses : (f : List ℕ) → Memᴰ f C → GoodClause N width f
  pub order : up C ≡ true
  pub rows : length C ≤ most_rows

-- ---- a right row and its clause
module _ (N : ℕ) (row : List ℕ) (right : clause_right N row ≡ true) where
  -- the row is that of its clause
  pub right_row : row_of (clause_of row) ≡ row
  unfolding clause_right
  right_row =
      sym
      (same_words row (row_of (clause_of row))
      (and_right (not (empty (clause_of row)) && literal_list N (clause_of row)) (is_same (compare_words row (row_of (clause_of row)))) right))

  pub right_list : literal_list N (clause_of row) ≡ true
  unfolding clause_right
  right_list =
      and_right (not (empty (clause_of row))) (literal_list N (clause_of row))
      (and_left (not (empty (clause_of row)) && literal_list N (clause_of row)) (is_same (compare_words row (row_of (clause_of row)))) right)

  pub right_some : 1 ≤ length (clause_of row)
  unfolding clause_right empty
  right_some =
      go (clause_of row)
      (and_left (not (empty (clause_of row))) (literal_list N (clause_of row))
      (and_left (not (empty (clause_of row)) && literal_list N (clause_of row)) (is_same (compare_words row (row_of (clause_of row)))) right))
    where
      go : (f : List ℕ) → not (empty f) ≡ true → 1 ≤ length f
      go [] h = absurd (false≢true h)
      go (x ∷ f) h = omega arith

pub clause_short : (row : List ℕ) → length (clause_of row) ≤ length row
unfolding clause_of
clause_short [] = omega arith
clause_short (x ∷ row) = go (eqb x fill) refl (clause_short row)
  where
    go : (b : Bool) → eqb x fill ≡ b → length (clause_of row) ≤ length row → length (clause_of (x ∷ row)) ≤ suc (length row)
    go true e rec = rw (e, clause_of) (omega arith)
    go false e rec = rw (e, clause_of) (omega arith)

-- 1 to `width` literals as a literal list
pub right_good : (N : ℕ) (row : List ℕ) → length row ≤ width → clause_right N row ≡ true → GoodClause N width (clause_of row)
right_good N row short right =
    record {
      list = right_list N row right;
      some_literal = right_some N row right;
      most = (let h = clause_short row in omega arith);
    }

-- ---- rows one after the other
module _ (N : ℕ) (w : List ℕ) where
  row_short : (i : ℕ) → length (row_at w i) ≤ width
  unfolding row_at
  row_short i = omega (arith, length-take width (drop (width * i) w))

  -- one row read
  record Row (i k : ℕ) (C : List (List ℕ)) : Type 0 where
    others : List (List ℕ)
    same : C ≡ clause_of (row_at w i) ∷ others
    behind : read_rows N w (suc i) k ≡ finding others
    right : clause_right N (row_at w i) ≡ true
    high : above_last w i ≡ true

  row_read : (i k : ℕ) (C : List (List ℕ)) → read_rows N w i (suc k) ≡ finding C → Row i k C
  unfolding read_rows
  row_read i k C e =
      record {
        others = q.0;
        same = sym (same_finding (clause_of (row_at w i) ∷ q.0) C q.2);
        behind = q.1;
        right = and_left (clause_right N (row_at w i)) (above_last w i) a;
        high = and_right (clause_right N (row_at w i)) (above_last w i) a;
      }
    where
      p :
          (u : Unit {0}) × (ask_at 9 i (clause_right N (row_at w i) && above_last w i) ≡ finding u)
          × ((read_rows N w (suc i) k >>= λ D. finding (clause_of (row_at w i) ∷ D)) ≡ finding C)
      p = bind_of (ask_at 9 i (clause_right N (row_at w i) && above_last w i)) (λ _. read_rows N w (suc i) k >>= λ D. finding (clause_of (row_at w i) ∷ D)) C e

      q : (D : List (List ℕ)) × (read_rows N w (suc i) k ≡ finding D) × (finding (clause_of (row_at w i) ∷ D) ≡ finding C)
      q = bind_of (read_rows N w (suc i) k) (λ D. finding (clause_of (row_at w i) ∷ D)) C p.2

      a : (clause_right N (row_at w i) && above_last w i) ≡ true
      a = ask_of 9 i (clause_right N (row_at w i) && above_last w i) p.0 p.1

  rows_good : (k i : ℕ) (C : List (List ℕ)) → read_rows N w i k ≡ finding C → (f : List ℕ) → Memᴰ f C → GoodClause N width f
  unfolding read_rows
  rows_good zero i C e f m = absurd (Memᴰ.not-nil (rw (← same_finding [] C e) at m))
  rows_good (suc k) i C e f m =
      let r = row_read i k C e in
      go r (Memᴰ.cases_cons (rw r.same at m)) (λ j. rows_good k (suc i) r.others r.behind f j)
    where
      go : (r : Row i k C) → (f ≡ clause_of (row_at w i)) ⊎ Memᴰ f r.others → (Memᴰ f r.others → GoodClause N width f) → GoodClause N width f
      go r (inl j) rec = rw j (right_good N (row_at w i) (row_short i) r.right)
      go r (inr j) rec = rec j

  rows_length : (k i : ℕ) (C : List (List ℕ)) → read_rows N w i k ≡ finding C → length C ≡ k
  unfolding read_rows
  rows_length zero i C e = rw (← same_finding [] C e)
  rows_length (suc k) i C e = let r = row_read i k C e in rw r.same (ap suc (rows_length k (suc i) r.others r.behind))

  rows_from : (k i : ℕ) (f : List ℕ) (C : List (List ℕ)) → row_at w i ≡ row_of f → read_rows N w (suc i) k ≡ finding C → up_from f C ≡ true
  unfolding read_rows up_from above_last
  rows_from zero i f C s e = rw (← same_finding [] C e)
  rows_from (suc k) i f C s e =
      let r = row_read (suc i) k C e in
      let t = sym (right_row N (row_at w (suc i)) r.right) in
      rw r.same
      (and_both (rw (s, t) at r.high) (rows_from k (suc i) (clause_of (row_at w (suc i))) r.others t r.behind))

  rows_up : (k i : ℕ) (C : List (List ℕ)) → read_rows N w i k ≡ finding C → up C ≡ true
  unfolding read_rows up
  rows_up zero i C e = rw (← same_finding [] C e)
  rows_up (suc k) i C e =
      let r = row_read i k C e in
      rw r.same (rows_from k i (clause_of (row_at w i)) r.others (sym (right_row N (row_at w i) r.right)) r.behind)

  rows_words : (k i : ℕ) (C : List (List ℕ)) → read_rows N w i k ≡ finding C → clause_words C ≡ take (width * k) (drop (width * i) w)
  unfolding read_rows clause_words each
  rows_words zero i C e = rw (← same_finding [] C e, mul-zero width)
  rows_words (suc k) i C e =
      let r = row_read i k C e in
      rw r.same
      (ap₂ (λ x y. x ++ y) (right_row N (row_at w i) r.right) (rows_words k (suc i) r.others r.behind) ∙ sym onward)
    where
      onward : take (width * suc k) (drop (width * i) w) ≡ row_at w i ++ take (width * k) (drop (width * suc i) w)
      onward =
          unfold row_at in
          ap (λ n. take n (drop (width * i) w)) (mul-suc width k ∙ add_comm (width * k) width)
          ∙ take-add width (width * k) (drop (width * i) w)
          ∙ ap (λ l. take width (drop (width * i) w) ++ take (width * k) l) (drop-drop width (width * i) w ∙ ap (λ n. drop n w) (sym (mul-suc width i)))

-- questions 8 and 9: the set is right, and its words are those read
pub rows_right_lem : (N : ℕ) (w : List ℕ) (C : List (List ℕ)) → read_clauses N w ≡ finding C → RightSet N C × (clause_words C ≡ w)
unfolding read_clauses ask
rows_right_lem N w C e =
    let q = bind_of (ask_at 8 0 (eqb (length w % width) 0 && leb (length w) (width * most_rows))) _ C e in
    let a = ask_of 8 0 (eqb (length w % width) 0 && leb (length w) (width * most_rows)) q.0 q.1 in
    let even = eqb-true (length w % width) 0 (and_left (eqb (length w % width) 0) (leb (length w) (width * most_rows)) a) in
    let most = leb-true (length w) (width * most_rows) (and_right (eqb (length w % width) 0) (leb (length w) (width * most_rows)) a) in (
      record {
        clauses = rows_good N w (length w / width) 0 C q.2;
        order = rows_up N w (length w / width) 0 C q.2;
        rows = rw (rows_length N w (length w / width) 0 C q.2) (fewer (length w) most);
      },
      rows_words N w (length w / width) 0 C q.2
          ∙ ap (λ n. take (width * (length w / width)) (drop n w)) (mul-zero width)
          ∙ take_all (width * (length w / width)) w (let d = div-add-mod (length w) width in omega arith),
    )
  where
    fewer : (n : ℕ) → n ≤ width * most_rows → n / width ≤ most_rows
    fewer n h = unfold width most_rows in omega arith
