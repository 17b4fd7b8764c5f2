-- What it says that clause words are read. Assumes nothing.
use mathlib.Core.Bool.{Bool, true, ◌&&◌}
use mathlib.Core.Path.{◌≡◌, refl, sym, ◌∙◌, ap}
use mathlib.Core.List.{List, [], ◌∷◌}
use Prim.Native.Nat.{ℕ, zero, suc, ◌+◌, ◌*◌, ◌/◌, ◌%◌, ◌≤◌, ◌<◌}
use native.Mathlib.Omega.{arith}
use native.Mathlib.Decide.{dec_lt}
use lib.Dec.{eqb, leb}
use lib.ListN.{length}
use borrow.Author.Tests.{eqb-true, leb-true}
use Rattle.definitions.specs.Answer.{finding, verdict, ask, ask_at, ◌>>=◌}
use Rattle.definitions.specs.Clauses.{width, most_rows, clause_of, clause_right, row_at, above_last, read_rows, read_clauses}
use Rattle.definitions.proofs.ListLaws.{and_left, and_right, and_both}
use Rattle.definitions.proofs.AnswerLaws.{same_finding, bind_of, ask_of}
use Rattle.answer.proofs.Laws.{verdict_finding}
use Rattle.clause.specs.Rows.{row_count, clauses_in, clauses_of, ClausesRead, RightRows}
use Rattle.clause.proofs.RowLaws.{in_none, in_step}
use Rattle.clause.proofs.RowOrder.{rows_ascend}
use Rattle.clause.proofs.Reading.{read_start}

-- ---- the rows from row i on, k of them
module _ (N : ℕ) (w : List ℕ) where
  abbrev right_at : ℕ → Bool
  right_at j = clause_right N (row_at w j) && above_last w j

  rows_are : (i k : ℕ) (C : List (List ℕ)) → read_rows N w i k ≡ finding C → C ≡ clauses_in w i k
  unfolding read_rows
  rows_are i zero C e = sym (same_finding [] C e) ∙ sym (in_none w i)
  rows_are i (suc k) C e =
      let p = bind_of (ask_at 9 i (right_at i)) (λ _. read_rows N w (suc i) k >>= λ D. finding (clause_of (row_at w i) ∷ D)) C e in
      let q = bind_of (read_rows N w (suc i) k) (λ D. finding (clause_of (row_at w i) ∷ D)) C p.2 in
      sym (same_finding (clause_of (row_at w i) ∷ q.0) C q.2)
      ∙ ap (λ (D : List (List ℕ)). clause_of (row_at w i) ∷ D) (rows_are (suc i) k q.0 q.1)
      ∙ sym (in_step w i k)

  rows_right_lem : (i k : ℕ) (C : List (List ℕ)) → read_rows N w i k ≡ finding C → (j : ℕ) → i ≤ j → j < i + k → right_at j ≡ true
  unfolding read_rows
  rows_right_lem i zero C e j a b = absurd (omega arith)
  rows_right_lem i (suc k) C e j a b = go (dec_lt i j) (λ x y. rows_right_lem (suc i) k q.0 q.1 j x y)
    where
      p : (u : Unit {0}) × (ask_at 9 i (right_at i) ≡ finding u) × ((read_rows N w (suc i) k >>= λ D. finding (clause_of (row_at w i) ∷ D)) ≡ finding C)
      p = bind_of (ask_at 9 i (right_at i)) (λ _. read_rows N w (suc i) k >>= λ D. finding (clause_of (row_at w i) ∷ D)) C e

      q : (D : List (List ℕ)) × (read_rows N w (suc i) k ≡ finding D) × (finding (clause_of (row_at w i) ∷ D) ≡ finding C)
      q = bind_of (read_rows N w (suc i) k) (λ D. finding (clause_of (row_at w i) ∷ D)) C p.2

      go : Dec (i < j) → (suc i ≤ j → j < suc i + k → right_at j ≡ true) → right_at j ≡ true
      go (yes l) rec = rec (omega arith) (omega arith)
      go (no l) rec = let s : j ≡ i = omega arith in rw s (ask_of 9 i (right_at i) p.0 p.1)

  rows_read : (i k : ℕ) → ((j : ℕ) → i ≤ j → j < i + k → right_at j ≡ true) → read_rows N w i k ≡ finding (clauses_in w i k)
  unfolding read_rows ask_at ◌>>=◌
  rows_read i zero h = rw in_none
  rows_read i (suc k) h =
      rw (h i (omega arith) (omega arith), rows_read (suc i) k (λ j a b. h j (let z = a in omega arith) (let z = b in omega arith)), in_step w i k)

-- ---- all rows
read_rows_lem :
    (N : ℕ) (w : List ℕ) (C : List (List ℕ)) → read_clauses N w ≡ finding C
    → (length w % width ≡ 0) × (length w ≤ width * most_rows) × (read_rows N w 0 (row_count w) ≡ finding C)
unfolding read_clauses ask row_count
read_rows_lem N w C e =
    let a = eqb (length w % width) 0 in
    let b = leb (length w) (width * most_rows) in
    let p = bind_of (ask_at 8 0 (a && b)) (λ _. read_rows N w 0 (length w / width)) C e in
    let t = ask_of 8 0 (a && b) p.0 p.1 in
    (eqb-true (length w % width) 0 (and_left a b t), leb-true (length w) (width * most_rows) (and_right a b t), p.2)

-- what is read are the clauses
pub read_are : (N : ℕ) (w : List ℕ) (C : List (List ℕ)) → read_clauses N w ≡ finding C → C ≡ clauses_of w
unfolding clauses_of
read_are N w C e = rows_are N w 0 (row_count w) C (read_rows_lem N w C e).2

pub read_of : (N : ℕ) (w : List ℕ) (C : List (List ℕ)) → read_clauses N w ≡ finding C → ClausesRead N w
read_of N w C e = record { read = e ∙ ap finding (read_are N w C e) }

-- from the code's verdict
pub read_fine : (N : ℕ) (w : List ℕ) (u : Unit {0}) → verdict (read_clauses N w) ≡ finding u → ClausesRead N w
read_fine N w u e = let r = verdict_finding (read_clauses N w) u e in read_of N w r.0 r.1

module _ (N : ℕ) (w : List ℕ) (read : ClausesRead N w) where
  pub read_whole : length w % width ≡ 0
  read_whole = (read_rows_lem N w (clauses_of w) read.read).0

  pub read_few : length w ≤ width * most_rows
  read_few = (read_rows_lem N w (clauses_of w) read.read).1

  pub read_count : row_count w ≤ most_rows
  unfolding row_count width
  read_count = let few = read_few in omega arith

  row_right_lem : (i : ℕ) → i < row_count w → (clause_right N (row_at w i) && above_last w i) ≡ true
  row_right_lem i h = rows_right_lem N w 0 (row_count w) (clauses_of w) (read_rows_lem N w (clauses_of w) read.read).2 i (omega arith) (omega arith)

  above : (i : ℕ) → i < row_count w → above_last w i ≡ true
  above i h = and_right (clause_right N (row_at w i)) (above_last w i) (row_right_lem i h)

  pub read_right : RightRows N w
  read_right =
      record {
        ascending = record { whole = read_whole; less = rows_ascend w (row_count w) above };
        right = λ i h. and_left (clause_right N (row_at w i)) (above_last w i) (row_right_lem i h);
      }

pub right_read : (N : ℕ) (w : List ℕ) → RightRows N w → length w ≤ width * most_rows → ClausesRead N w
unfolding clauses_of above_last
right_read N w r few = record { read = read_start N w r.ascending.whole few ∙ rows_read N w 0 (row_count w) test }
  where
    above : (j : ℕ) → j < row_count w → above_last w j ≡ true
    above zero b = refl
    above (suc j) b = r.ascending.less j (suc j) (omega arith) b

    test : (j : ℕ) → 0 ≤ j → j < 0 + row_count w → (clause_right N (row_at w j) && above_last w j) ≡ true
    test j a b = and_both (r.right j (omega arith)) (above j (omega arith))
