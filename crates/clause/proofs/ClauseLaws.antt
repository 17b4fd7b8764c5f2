-- The clauses of right rows, for callers. Assumes nothing.
use mathlib.Core.Bool.{true, false}
use mathlib.Core.Logic.{◌⊎◌, inl, inr}
use mathlib.Core.Path.{◌≡◌, refl, sym, ◌∙◌, ap}
use mathlib.Core.List.Memᴰ
use mathlib.Core.List.{List, [], ◌∷◌, Memᴰ}
use Prim.Native.Nat.{ℕ, zero, suc, ◌+◌, ◌-◌, ◌*◌, ◌≤◌, ◌<◌}
use native.Mathlib.Omega.{arith}
use native.Mathlib.Decide.{dec_lt}
use lib.ListN.{length}
use Rattle.definitions.specs.Lists.{any, compare_words, is_same, Distinct, nothing, another}
use Rattle.definitions.specs.Literal.{most_atoms, all_below}
use Rattle.definitions.specs.Clauses.{width, row_of, clause_of, clause_right, row_less, row_at}
use Rattle.definitions.specs.Groups.{has_clause}
use Rattle.definitions.proofs.LiteralLaws.{list_low, below_at}
use Rattle.definitions.proofs.ListLaws.{decide, and_left, and_right, and_both, any_in, any_of}
use Rattle.definitions.proofs.PlaceLaws.{same_words}
use Rattle.definitions.proofs.Counting.{Part}
use Rattle.definitions.proofs.OrderLaws.{up, up_from, same_self}
use Rattle.definitions.specs.Clauses.{GoodClause}
use Rattle.definitions.proofs.Accepts as accepts
use Rattle.definitions.proofs.RowsRead.{right_row}
use Rattle.definitions.proofs.RowsRead as rows_read
use Rattle.definitions.proofs.Accepts.{clause_back}
use Rattle.clause.specs.Rows.{row_count, clauses_in, clauses_of, RightRows}
use Rattle.clause.specs.Search.{Sought}
use Rattle.std.specs.Prelude.{Result, Ok, Err}
use Rattle.std.specs.Result.{is_ok}
use Rattle.clause.proofs.RowLaws.{in_none, in_step, row_length, RowOf, clause_in, clause_of_lem}
use Rattle.clause.proofs.RowOrder.{row_trans, row_irrefl}

-- ---- a right row and its clause
pub right_good : (N : ℕ) (row : List ℕ) → length row ≡ width → clause_right N row ≡ true → GoodClause N width (clause_of row)
right_good N row wide right = rows_read.right_good N row (omega arith) right

module _ (N : ℕ) (f : List ℕ) (few : N ≤ most_atoms) where
  -- the clause of the row of a clause
  pub row_back : all_below (2 * N) f ≡ true → clause_of (row_of f) ≡ f
  unfolding row_of
  row_back h = clause_back N f (width - length f) few h

  pub good_right : GoodClause N width f → clause_right N (row_of f) ≡ true
  good_right g = accepts.good_right N width few (omega arith) f g

-- ---- the clauses of right rows
module _ (N : ℕ) (w : List ℕ) (rows : RightRows N w) where
  pub clause_good : (f : List ℕ) → Memᴰ f (clauses_of w) → GoodClause N width f
  clause_good f m =
      let p = clause_of_lem w f m in
      rw p.same (right_good N (row_at w p.row) (row_length w p.row p.inside) (rows.right p.row p.inside))

  pub clause_below : (f : List ℕ) → Memᴰ f (clauses_of w) → (l : ℕ) → Memᴰ l f → l < 2 * N
  clause_below f mf l ml = below_at (2 * N) f (list_low N f (clause_good f mf).list) l ml

  -- a clause's row is the row where it stands
  placed_row : (f : List ℕ) (p : RowOf w f) → row_at w p.row ≡ row_of f
  placed_row f p = sym (ap row_of p.same ∙ right_row N (row_at w p.row) (rows.right p.row p.inside))

  in_up : (i k : ℕ) → i + k ≤ row_count w → up (clauses_in w i k) ≡ true
  unfolding up up_from
  in_up i zero h = rw (in_none w i)
  in_up i (suc zero) h = rw (in_step w i 0, in_none w (suc i))
  in_up i (suc (suc k)) h =
      let here : row_less (row_of (clause_of (row_at w i))) (row_of (clause_of (row_at w (suc i)))) ≡ true
      = rw (right_row N (row_at w i) (rows.right i (omega arith)), right_row N (row_at w (suc i)) (rows.right (suc i) (omega arith)))
      (rows.ascending.less i (suc i) (omega arith) (omega arith)) in
      rw (in_step w i (suc k), in_step w (suc i) k) (and_both here (rw (in_step w (suc i) k) at (in_up (suc i) (suc k) (omega arith))))

  -- the clauses are in row order
  pub clauses_up : up (clauses_of w) ≡ true
  unfolding clauses_of
  clauses_up = in_up 0 (row_count w) (omega arith)

  -- whether a clause is there, as the search for its row tells
  pub sought_clause :
      (f : List ℕ) (r : Result ℕ ℕ) → N ≤ most_atoms → all_below (2 * N) f ≡ true → Sought w (row_of f) r → has_clause (clauses_of w) f ≡ is_ok r
  unfolding has_clause
  sought_clause f (Ok i) few low s =
      let e : clause_of (row_at w i) ≡ f = ap clause_of s.same ∙ row_back N f few low in
      any_in (λ g. is_same (compare_words f g)) (rw e at (clause_in w i s.inside)) (same_self f)
  sought_clause f (Err i) few low s = go (decide (any (λ g. is_same (compare_words f g)) (clauses_of w)))
    where
      apart : (p : RowOf w f) → Dec (p.row < i) → ⊥
      apart p (yes l) = row_irrefl (row_of f) (rw (placed_row f p) at (s.before p.row l))
      apart p (no l) = row_irrefl (row_of f) (rw (placed_row f p) at (s.later p.row (omega arith) p.inside))

      go :
          (any (λ g. is_same (compare_words f g)) (clauses_of w) ≡ true) ⊎ (any (λ g. is_same (compare_words f g)) (clauses_of w) ≡ false)
          → any (λ g. is_same (compare_words f g)) (clauses_of w) ≡ false
      go (inl h) =
          let x = any_of (λ g. is_same (compare_words f g)) (clauses_of w) h in
          let e : f ≡ x.it = same_words f x.it x.passes in
          let p : RowOf w f = clause_of_lem w f (rw e x.mem) in
          absurd (apart p (dec_lt p.row i))
      go (inr h) = h

-- ---- sets in row order, and that those with the same members are equal
module _ where
  pub above_all : (g : List ℕ) (D : List (List ℕ)) → up_from g D ≡ true → (x : List ℕ) → Memᴰ x D → row_less (row_of g) (row_of x) ≡ true
  unfolding up_from
  above_all g [] h x m = absurd (Memᴰ.not-nil m)
  above_all g (y ∷ D) h x m = go (Memᴰ.cases_cons m) (λ k. above_all y D (and_right (row_less (row_of g) (row_of y)) (up_from y D) h) x k)
    where
      first : row_less (row_of g) (row_of y) ≡ true
      first = and_left (row_less (row_of g) (row_of y)) (up_from y D) h

      go : (x ≡ y) ⊎ Memᴰ x D → (Memᴰ x D → row_less (row_of y) (row_of x) ≡ true) → row_less (row_of g) (row_of x) ≡ true
      go (inl e) rec = rw e first
      go (inr k) rec = row_trans (row_of g) (row_of y) (row_of x) first (rec k)

  pub later_up : (g : List ℕ) (D : List (List ℕ)) → up_from g D ≡ true → up D ≡ true
  unfolding up up_from
  later_up g [] h = refl
  later_up g (y ∷ D) h = and_right (row_less (row_of g) (row_of y)) (up_from y D) h

  -- no clause of one stands twice
  pub up_distinct : (D : List (List ℕ)) → up D ≡ true → Distinct D
  unfolding up
  up_distinct [] h = nothing
  up_distinct (g ∷ D) h = another (λ m. row_irrefl (row_of g) (above_all g D h g m)) (up_distinct D (later_up g D h))

  pub same_set : (C D : List (List ℕ)) → up C ≡ true → up D ≡ true → Part C D → Part D C → C ≡ D
  unfolding up
  same_set [] [] a b p q = refl
  same_set [] (g ∷ D) a b p q = absurd (Memᴰ.not-nil (q g (Memᴰ.head refl)))
  same_set (f ∷ C) [] a b p q = absurd (Memᴰ.not-nil (p f (Memᴰ.head refl)))
  same_set (f ∷ C) (g ∷ D) a b p q = go same (λ x y. same_set C D (later_up f C a) (later_up g D b) x y)
    where
      same : f ≡ g
      same = meet (Memᴰ.cases_cons (p f (Memᴰ.head refl))) (Memᴰ.cases_cons (q g (Memᴰ.head refl)))
        where
          meet : (f ≡ g) ⊎ Memᴰ f D → (g ≡ f) ⊎ Memᴰ g C → f ≡ g
          meet (inl e) y = e
          meet (inr x) (inl e) = sym e
          meet (inr x) (inr y) = absurd (row_irrefl (row_of f) (row_trans (row_of f) (row_of g) (row_of f) (above_all f C a g y) (above_all g D b f x)))

      rest : (u v : List ℕ) (E F : List (List ℕ)) → u ≡ v → up_from u E ≡ true → Part (u ∷ E) (v ∷ F) → Part E F
      rest u v E F e up p x m = pick (Memᴰ.cases_cons (p x (Memᴰ.tail m)))
        where
          pick : (x ≡ v) ⊎ Memᴰ x F → Memᴰ x F
          pick (inl h) = absurd (row_irrefl (row_of u) (rw (h ∙ sym e) at (above_all u E up x m)))
          pick (inr k) = k

      go : f ≡ g → (Part C D → Part D C → C ≡ D) → (f ∷ C) ≡ (g ∷ D)
      go e rec = let r = rec (rest f g C D e a p) (rest g f D C (sym e) b q) in cc
