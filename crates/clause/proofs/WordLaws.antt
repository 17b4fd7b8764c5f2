-- Between a set of clauses and its words. Assumes nothing.
use mathlib.Core.Bool.{true}
use mathlib.Core.Path.{◌≡◌, sym, ◌∙◌, ap}
use mathlib.Core.List.{List, [], Memᴰ}
use Prim.Native.Nat.{ℕ, zero, suc, ◌+◌, ◌*◌, ◌%◌, ◌≤◌, ◌<◌}
use native.Mathlib.Nat.{mul-suc, mul-zero}
use native.Mathlib.Omega.{arith}
use lib.Dec.{eqb}
use lib.ListN.{length, get_or, take, drop}
use lib.Seq.{take_all, take-add, drop-drop}
use borrow.Author.Tests.{eqb-true}
use Rattle.definitions.specs.Literal.{most_atoms}
use Rattle.definitions.specs.Lists.{each}
use Rattle.definitions.specs.Answer.{finding, verdict, ask, ask_at, ◌>>=◌}
use Rattle.definitions.specs.Clauses.{width, most_rows, row_of, clause_of, clause_words, clause_right, row_at, read_clauses, read_clause}
use Rattle.definitions.proofs.AnswerLaws.{bind_of, ask_of}
use Rattle.definitions.proofs.OrderLaws.{up}
use Rattle.definitions.specs.Clauses.{GoodClause}
use Rattle.definitions.proofs.Accepts.{read_back}
use Rattle.answer.proofs.Laws.{verdict_finding}
use Rattle.clause.specs.Rows.{row_count, clauses_in, clauses_of, ClausesRead, ClauseRead, RightRows}
use Rattle.clause.proofs.RowLaws.{in_none, in_step, clauses_at_lem}
use Rattle.clause.proofs.ReadLaws.{read_of, read_are}
use Rattle.definitions.proofs.RowsRead.{right_row}

whole_length : (w : List ℕ) → length w % width ≡ 0 → length w ≤ width * row_count w
unfolding row_count width
whole_length w e = omega arith

-- ---- from words to clauses and back
module _ (N : ℕ) (w : List ℕ) (rows : RightRows N w) where
  pub row_at_lem : (i : ℕ) → i < row_count w → row_at w i ≡ row_of (get_or (clauses_of w) i [])
  row_at_lem i h = sym (ap row_of (clauses_at_lem w i h) ∙ right_row N (row_at w i) (rows.right i h))

  pub in_words : (i k : ℕ) → i + k ≤ row_count w → clause_words (clauses_in w i k) ≡ take (width * k) (drop (width * i) w)
  unfolding clause_words each row_at
  in_words i zero h = rw (in_none w i, mul-zero width)
  in_words i (suc k) h =
      let a : width * suc k ≡ width + width * k = omega (arith, mul-suc width k) in
      let b : width * suc i ≡ width * i + width = omega (arith, mul-suc width i) in
      rw (
        in_step w i k,
        a,
        take-add width (width * k) (drop (width * i) w),
        drop-drop width (width * i) w,
        ← b,
        right_row N (row_at w i) (rows.right i (omega arith)),
        in_words (suc i) k (omega arith),
      )

  -- the words of the clauses of right rows
  pub words_back : clause_words (clauses_of w) ≡ w
  unfolding clauses_of
  words_back =
      in_words 0 (row_count w) (omega arith)
      ∙ ap (λ (n : ℕ). take (width * row_count w) (drop n w)) (mul-zero width)
      ∙ take_all (width * row_count w) w (whole_length w rows.ascending.whole)

-- ---- from clauses to words and back: the words of a right set in row order are read, and give the set back
module _
    (N : ℕ) (C : List (List ℕ)) (few : N ≤ most_atoms) (good : (f : List ℕ) → Memᴰ f C → GoodClause N width f) (up-C : up C ≡ true)
    (rows : length C ≤ most_rows) where
  words_set : read_clauses N (clause_words C) ≡ finding C
  words_set = read_back N width few (omega arith) C good up-C rows

  pub words_read : ClausesRead N (clause_words C)
  words_read = read_of N (clause_words C) C words_set

  pub words_clauses : clauses_of (clause_words C) ≡ C
  words_clauses = sym (read_are N (clause_words C) C words_set)

-- ---- a clause alone
pub clause_fine : (N : ℕ) (row : List ℕ) (u : Unit {0}) → verdict (read_clause N row) ≡ finding u → ClauseRead N row
unfolding read_clause ask
clause_fine N row u e =
    let r = verdict_finding (read_clause N row) u e in
    let p = bind_of (ask_at 8 0 (eqb (length row) width)) (λ _. ask_at 9 0 (clause_right N row) >>= λ _. finding (clause_of row)) r.0 r.1 in
    let q = bind_of (ask_at 9 0 (clause_right N row)) (λ _. finding (clause_of row)) r.0 p.2 in
    record {
      wide = eqb-true (length row) width (ask_of 8 0 (eqb (length row) width) p.0 p.1);
      right = ask_of 9 0 (clause_right N row) q.0 q.1;
      read = r.1 ∙ sym q.2;
    }
