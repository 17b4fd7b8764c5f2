-- The literals left at word k of the row that starts at a word: for walks over the rows and their words. Assumes nothing.
use mathlib.Core.Path.{◌≡◌, refl, sym, ◌∙◌, ap}
use mathlib.Core.List.{List, [], ◌∷◌, ◌++◌}
use Prim.Native.Nat.{ℕ, zero, suc, ◌+◌, ◌-◌, ◌≤◌, ◌<◌}
use native.Mathlib.Numerals.{add-one}
use native.Mathlib.Decide.{ℕ_discrete}
use native.Mathlib.Omega.{arith}
use lib.ListN.{length, get_or, take, drop, replicate, length-take, length-drop}
use lib.Seq.{get_or-take, get_or-drop}
use Rattle.definitions.specs.Literal.{fill}
use Rattle.definitions.specs.Clauses.{width, row_of, clause_of}
use Rattle.clause.specs.Rows.{clause_at}
use Rattle.clause.proofs.Words.{clause_none, clause_fill, clause_cons, clause_stop, clause_on, clause_end}

-- ---- after a fill stands only fill
fill_none : (m j : ℕ) → clause_of (drop j (replicate m fill)) ≡ []
fill_none zero zero = clause_none
fill_none zero (suc j) = clause_none
fill_none (suc m) zero = clause_fill fill (replicate m fill) refl
fill_none (suc m) (suc j) = fill_none m j

filled : (m k : ℕ) (xs : List ℕ) → xs ≡ clause_of xs ++ replicate m fill → k < length xs → get_or xs k 0 ≡ fill → clause_of (drop (suc k) xs) ≡ []
filled m k [] e h q = absurd (omega arith)
filled m k (x ∷ xs) e h q = go (ℕ_discrete x fill) k h q (λ k' e' h' q'. filled m k' xs e' h' q')
  where
    go :
        Dec (x ≡ fill) → (k : ℕ) → k < suc (length xs) → get_or (x ∷ xs) k 0 ≡ fill
        → ((k' : ℕ) → xs ≡ clause_of xs ++ replicate m fill → k' < length xs → get_or xs k' 0 ≡ fill → clause_of (drop (suc k') xs) ≡ [])
        → clause_of (drop k xs) ≡ []
    go (yes f) k h q rec =
        let all-fill : x ∷ xs ≡ replicate m fill = e ∙ ap (λ (l : List ℕ). l ++ replicate m fill) (clause_fill x xs f) in
        ap (λ (l : List ℕ). clause_of (drop (suc k) l)) all-fill ∙ fill_none m (suc k)
    go (no f) zero h q rec = absurd (f q)
    go (no f) (suc k) h q rec =
        let later : x ∷ xs ≡ x ∷ (clause_of xs ++ replicate m fill) = e ∙ ap (λ (l : List ℕ). l ++ replicate m fill) (clause_cons x xs f) in
        rec k (cc) (omega arith) q

-- ---- the literals of the row that starts at a word, from the row's word k on
unfoldable pub rest_at : List ℕ → ℕ → ℕ → List ℕ
rest_at w at k = clause_of (drop k (take width (drop at w)))

pub rest_start : (w : List ℕ) (at : ℕ) → rest_at w at 0 ≡ clause_at w at
unfolding rest_at clause_at
rest_start w at = refl

pub rest_end : (w : List ℕ) (at k : ℕ) → width ≤ k → rest_at w at k ≡ []
unfolding rest_at
rest_end w at k h = clause_end (take width (drop at w)) k (rw length-take (omega arith))

module _ (w : List ℕ) (at k : ℕ) (h : k < width) (inside : at + width ≤ length w) where
  row_length : k < length (take width (drop at w))
  row_length = simp (length-take, length-drop) (omega arith)

  row_word : get_or w (at + k) 0 ≡ get_or (take width (drop at w)) k 0
  row_word = sym (get_or-take width (drop at w) k 0 h ∙ get_or-drop at w k 0)

  pub rest_next : (get_or w (at + k) 0 ≡ fill → ⊥) → rest_at w at k ≡ get_or w (at + k) 0 ∷ rest_at w at (k + 1)
  unfolding rest_at
  rest_next ne = clause_on (take width (drop at w)) k (get_or w (at + k) 0) row_word row_length ne

  pub rest_none : get_or w (at + k) 0 ≡ fill → rest_at w at k ≡ []
  unfolding rest_at
  rest_none e = clause_stop (take width (drop at w)) k (get_or w (at + k) 0) row_word row_length e

  -- the row is that of its clause: after a fill stands only fill
  pub rest_fill : row_of (clause_of (take width (drop at w))) ≡ take width (drop at w) → get_or w (at + k) 0 ≡ fill → rest_at w at k ≡ rest_at w at (k + 1)
  unfolding rest_at row_of
  rest_fill same e =
      let row = take width (drop at w) in
      rest_none e
      ∙ sym (rw add-one (filled (width - length (clause_of row)) k row (sym same) row_length (sym row_word ∙ e)))
