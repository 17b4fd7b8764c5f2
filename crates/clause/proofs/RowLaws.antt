-- Laws of rows and of the clauses of clause words, for the walks and for callers. Assumes nothing.
use mathlib.Core.Path.{◌≡◌, refl, sym, ◌∙◌, ap}
use mathlib.Core.List.{List, [], ◌∷◌, Memᴰ}
use Prim.Native.Nat.{ℕ, zero, suc, ◌+◌, ◌-◌, ◌*◌, ◌≤◌, ◌<◌}
use native.Mathlib.Nat.{mul-suc, mul-zero}
use native.Mathlib.Numerals.{add-one}
use native.Mathlib.Omega.{arith}
use lib.ListN.{length, get_or, take, drop, length-take, length-drop, drop_of_length-le}
use lib.Seq.{drop-cons, drop-drop}
use Rattle.definitions.specs.Lists.{range, below}
use Rattle.definitions.specs.Clauses.{width, clause_of, row_at}
use Rattle.definitions.proofs.ListLaws.{map_in, map_of}
use Rattle.definitions.proofs.Walks.{below_in}
use Rattle.definitions.proofs.SetLaws.{range_of}
use Rattle.clause.specs.Rows.{row_count, clauses_in, clauses_of, clause_at, clauses_from}

module _ (w : List ℕ) (i : ℕ) (inside : i < row_count w) where
  pub row_inside : width * i + width ≤ length w
  unfolding row_count width
  row_inside = omega arith

  pub row_length : length (row_at w i) ≡ width
  unfolding row_at
  row_length = let h = row_inside in simp (length-take, length-drop) (omega arith)

-- the number of rows of words of a known length
pub rows_of : (w : List ℕ) (n : ℕ) → length w ≡ width * n → row_count w ≡ n
unfolding row_count width
rows_of w n e = omega arith

-- the row that the code cuts out
pub row_cut : (w : List ℕ) (i a e : ℕ) → a ≡ width * i → e ≡ a + width → take (e - a) (drop a w) ≡ row_at w i
unfolding row_at
row_cut w i a e p q =
    let h : e - a ≡ width = omega arith in
    rw (h, p)

-- ---- the clauses of k rows from row i on
pub in_none : (w : List ℕ) (i : ℕ) → clauses_in w i 0 ≡ []
unfolding clauses_in range
in_none w i = refl

pub in_step : (w : List ℕ) (i k : ℕ) → clauses_in w i (suc k) ≡ clause_of (row_at w i) ∷ clauses_in w (suc i) k
unfolding clauses_in range
in_step w i k = refl

in_length : (w : List ℕ) (i k : ℕ) → length (clauses_in w i k) ≡ k
in_length w i zero = ap length (in_none w i)
in_length w i (suc k) = ap length (in_step w i k) ∙ ap suc (in_length w (suc i) k)

in_at : (w : List ℕ) (i k j : ℕ) → j < k → get_or (clauses_in w i k) j [] ≡ clause_of (row_at w (i + j))
in_at w i zero j h = absurd (omega arith)
in_at w i (suc k) zero h =
    let e : i + 0 ≡ i = omega arith in
    rw (in_step w i k, e)
in_at w i (suc k) (suc j) h =
    let e : i + suc j ≡ suc i + j = omega arith in
    ap (λ (C : List (List ℕ)). get_or C (suc j) []) (in_step w i k) ∙ in_at w (suc i) k j (omega arith) ∙ rw e

-- ---- the clauses of all rows
pub clauses_length : (w : List ℕ) → length (clauses_of w) ≡ row_count w
unfolding clauses_of
clauses_length w = in_length w 0 (row_count w)

module _ (w : List ℕ) (i : ℕ) where
  pub clauses_at_lem : i < row_count w → get_or (clauses_of w) i [] ≡ clause_of (row_at w i)
  unfolding clauses_of
  clauses_at_lem h =
      let e : 0 + i ≡ i = omega arith in
      in_at w 0 (row_count w) i h ∙ rw e

  -- what is left at row i
  pub clauses_left : i < row_count w → drop i (clauses_of w) ≡ clause_of (row_at w i) ∷ drop (i + 1) (clauses_of w)
  clauses_left h = rw (← clauses_at_lem h, add-one) (drop-cons (clauses_of w) i [] (rw clauses_length h))

  pub clauses_done : row_count w ≤ i → drop i (clauses_of w) ≡ []
  clauses_done h = drop_of_length-le (clauses_of w) {i = i} (rw clauses_length h)

-- the row of a clause
pub record RowOf (w f : List ℕ) : Type 0 where
  pub row : ℕ
  pub inside : row < row_count w
  pub same : f ≡ clause_of (row_at w row)

module _ (w : List ℕ) where
  pub clause_in : (i : ℕ) → i < row_count w → Memᴰ (clause_of (row_at w i)) (clauses_of w)
  unfolding clauses_of clauses_in below
  clause_in i h = map_in (λ j. clause_of (row_at w j)) (below_in (row_count w) i h)

  pub clause_of_lem : (f : List ℕ) → Memᴰ f (clauses_of w) → RowOf w f
  unfolding clauses_of clauses_in
  clause_of_lem f m =
      let o = map_of (λ j. clause_of (row_at w j)) (range 0 (row_count w)) m in
      let b = (range_of 0 (row_count w) o.mem).1 in
      record { row = o.it; inside = omega arith; same = o.same }

-- ---- the clauses from a word on
shift_row : (v : List ℕ) (i : ℕ) → row_at v (suc i) ≡ row_at (drop width v) i
unfolding row_at
shift_row v i =
    let e : width * suc i ≡ width + width * i = omega (arith, mul-suc width i) in
    rw (e, drop-drop (width * i) width v)

shift_in : (v : List ℕ) (i k : ℕ) → clauses_in v (suc i) k ≡ clauses_in (drop width v) i k
shift_in v i zero = in_none v (suc i) ∙ sym (in_none (drop width v) i)
shift_in v i (suc k) =
    let q : (clause_of (row_at v (suc i)) ∷ clauses_in v (suc (suc i)) k) ≡ (clause_of (row_at (drop width v) i) ∷ clauses_in (drop width v) (suc i) k) =
    rw (shift_row v i, shift_in v (suc i) k) in
    in_step v (suc i) k ∙ q ∙ sym (in_step (drop width v) i k)

count_step : (v : List ℕ) → width ≤ length v → row_count v ≡ suc (row_count (drop width v))
unfolding row_count width
count_step v h = rw length-drop (omega arith)

first_row : (v : List ℕ) → row_at v 0 ≡ take width v
unfolding row_at
first_row v = rw (mul-zero width)

pub clauses_step : (v : List ℕ) → width ≤ length v → clauses_of v ≡ clause_of (take width v) ∷ clauses_of (drop width v)
unfolding clauses_of
clauses_step v h =
    ap (clauses_in v 0) (count_step v h)
    ∙ in_step v 0 (row_count (drop width v))
    ∙ rw (first_row v, shift_in v 0 (row_count (drop width v)))

none_whole : (v : List ℕ) → length v < width → row_count v ≡ 0
unfolding row_count width
none_whole v h = omega arith

pub width_some : 0 < width
unfolding width
width_some = omega arith

pub clauses_none : (v : List ℕ) → length v < width → clauses_of v ≡ []
unfolding clauses_of
clauses_none v h = ap (clauses_in v 0) (none_whole v h) ∙ in_none v 0

module _ (w : List ℕ) where
  pub from_start : clauses_from w 0 ≡ clauses_of w
  unfolding clauses_from
  from_start = refl

  pub from_next : (at : ℕ) → at + width ≤ length w → clauses_from w at ≡ clause_at w at ∷ clauses_from w (at + width)
  unfolding clauses_from clause_at
  from_next at h = clauses_step (drop at w) (rw length-drop (omega arith)) ∙ rw (drop-drop width at w)

  pub from_end : (at : ℕ) → length w < at + width → clauses_from w at ≡ []
  unfolding clauses_from
  from_end at h = clauses_none (drop at w) (rw length-drop (omega (arith, width_some)))
