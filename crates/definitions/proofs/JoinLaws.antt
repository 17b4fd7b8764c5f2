-- Numbers, literals and lists shifted, and two states put together. Assumes nothing.
use mathlib.Core.Bool.{true, false, ◌&&◌, ◌||◌, cond}
use mathlib.Core.Logic.{◌⊎◌, inl, inr}
use mathlib.Core.Path.{◌≡◌, refl, sym, ◌∙◌, ap, ap₂}
use mathlib.Core.List.Memᴰ
use mathlib.Core.List.{List, [], ◌∷◌, ◌++◌, map, Memᴰ}
use Prim.Native.Nat.{ℕ, suc, ◌+◌, ◌*◌, ◌%◌, ◌≤◌, ◌<◌}
use native.Mathlib.Omega.{arith}
use lib.Dec.{eqb, ltb}
use lib.ListN.{length, get_or, get_or-append}
use lib.Seq.{get_or-append-add}
use borrow.Author.Tests.{eqb-true, eq-eqb, ltb-true, lt-ltb}
use Rattle.definitions.specs.Lists.{any, above, ascending, member}
use Rattle.definitions.specs.Literal.{atom, positive, complement, all_below, true_in, holds_in, all_true}
use Rattle.definitions.specs.Image.{Row, Operator}
use Rattle.definitions.specs.Join.{shifted, shifted_row, shifted_operator}
use Rattle.definitions.proofs.ListLaws.{decide, and_left, and_right, and_both, member_of, map_of}
use Rattle.definitions.proofs.ListLaws.{map_in, all_append, any_append, all_map, any_map, all_agree, any_agree}
use Rattle.definitions.proofs.LiteralLaws.{Shape, is, isnt, shape, complement_even, complement_odd, below_at, below_all}
use Rattle.definitions.proofs.EncodeLaws.{same_bool_lem}

-- ---- numbers shifted
pub eqb_shift : (k a b : ℕ) → eqb (k + a) (k + b) ≡ eqb a b
eqb_shift k a b =
    same_bool_lem (eqb (k + a) (k + b)) (eqb a b)
    (λ e. let h = eqb-true (k + a) (k + b) e in eq-eqb a b (omega arith))
    (λ e. let h = eqb-true a b e in eq-eqb (k + a) (k + b) (omega arith))

pub ltb_shift : (k a b : ℕ) → ltb (k + a) (k + b) ≡ ltb a b
ltb_shift k a b =
    same_bool_lem (ltb (k + a) (k + b)) (ltb a b)
    (λ e. let h = ltb-true (k + a) (k + b) e in lt-ltb a b (omega arith))
    (λ e. let h = ltb-true a b e in lt-ltb (k + a) (k + b) (omega arith))

module _ (k : ℕ) where
  pub shifted_in : {x : ℕ} {xs : List ℕ} → Memᴰ x xs → Memᴰ (k + x) (shifted k xs)
  unfolding shifted
  shifted_in m = map_in (λ x. k + x) m

  -- a number of a shifted list
  pub shifted_of : {y : ℕ} (xs : List ℕ) → Memᴰ y (shifted k xs) → (x : ℕ) × Memᴰ x xs × (y ≡ k + x)
  unfolding shifted
  shifted_of xs m = let o = map_of (λ x. k + x) xs m in (o.it, o.mem, o.same)

  pub member_shift : (x : ℕ) (xs : List ℕ) → member (k + x) (shifted k xs) ≡ member x xs
  unfolding member shifted any
  member_shift x [] = refl
  member_shift x (y ∷ xs) = ap₂ (λ a b. a || b) (eqb_shift k x y) (member_shift x xs)

  -- a lower number is not in it
  pub member_under : (x : ℕ) (xs : List ℕ) → x < k → member x (shifted k xs) ≡ false
  member_under x xs h = go (decide (member x (shifted k xs)))
    where
      go : (member x (shifted k xs) ≡ true) ⊎ (member x (shifted k xs) ≡ false) → member x (shifted k xs) ≡ false
      go (inl e) = let o = shifted_of xs (member_of x (shifted k xs) e) in let z = o.2 in absurd (omega arith)
      go (inr e) = e

-- a number from k on is not in a list below k
pub member_over : (k x : ℕ) (xs : List ℕ) → all_below k xs ≡ true → k ≤ x → member x xs ≡ false
member_over k x xs low h = go (decide (member x xs))
  where
    go : (member x xs ≡ true) ⊎ (member x xs ≡ false) → member x xs ≡ false
    go (inl e) = let z = below_at k xs low x (member_of x xs e) in absurd (omega arith)
    go (inr e) = e

pub member_append : (x : ℕ) (xs ys : List ℕ) → member x (xs ++ ys) ≡ (member x xs || member x ys)
unfolding member
member_append x xs ys = any_append (eqb x) xs ys

pub shifted_zero : (xs : List ℕ) → shifted 0 xs ≡ xs
unfolding shifted
shifted_zero [] = refl
shifted_zero (x ∷ xs) = ap₂ (λ y l. y ∷ l) (omega arith) (shifted_zero xs)

pub shifted_append : (k : ℕ) (xs ys : List ℕ) → shifted k (xs ++ ys) ≡ shifted k xs ++ shifted k ys
unfolding shifted
shifted_append k [] ys = refl
shifted_append k (x ∷ xs) ys = ap (λ l. (k + x) ∷ l) (shifted_append k xs ys)

pub shifted_length : (k : ℕ) (xs : List ℕ) → length (shifted k xs) ≡ length xs
unfolding shifted
shifted_length k [] = refl
shifted_length k (x ∷ xs) = ap suc (shifted_length k xs)

-- ---- ascending lists put together
above_shift : (k x : ℕ) (ys : List ℕ) → above x ys ≡ true → above (k + x) (shifted k ys) ≡ true
unfolding above shifted
above_shift k x [] h = refl
above_shift k x (y ∷ ys) h =
    and_both (ltb_shift k x y ∙ and_left (ltb x y) (above y ys) h) (above_shift k y ys (and_right (ltb x y) (above y ys) h))

above_join :
    (k x : ℕ) (xs ys : List ℕ) → above x xs ≡ true → x < k → all_below k xs ≡ true → ascending ys ≡ true
    → above x (xs ++ shifted k ys) ≡ true
unfolding above ascending shifted
above_join k x [] [] h low lows up = refl
above_join k x [] (y ∷ ys) h low lows up = and_both (lt-ltb x (k + y) (omega arith)) (above_shift k y ys up)
above_join k x (z ∷ xs) ys h low lows up =
    and_both (and_left (ltb x z) (above z xs) h)
    (above_join k z xs ys (and_right (ltb x z) (above z xs) h) (below_at k (z ∷ xs) lows z (Memᴰ.head refl))
    (below_all k xs (λ y m. below_at k (z ∷ xs) lows y (Memᴰ.tail m))) up)

pub ascending_join :
    (k : ℕ) (xs ys : List ℕ) → ascending xs ≡ true → all_below k xs ≡ true → ascending ys ≡ true → ascending (xs ++ shifted k ys) ≡ true
unfolding ascending shifted
ascending_join k [] [] h lows up = refl
ascending_join k [] (y ∷ ys) h lows up = above_shift k y ys up
ascending_join k (x ∷ xs) ys h lows up =
    above_join k x xs ys h (below_at k (x ∷ xs) lows x (Memᴰ.head refl))
    (below_all k xs (λ y m. below_at k (x ∷ xs) lows y (Memᴰ.tail m))) up

pub below_join : (k n : ℕ) (xs ys : List ℕ) → all_below k xs ≡ true → all_below n ys ≡ true → all_below (k + n) (xs ++ shifted k ys) ≡ true
below_join k n xs ys h g = below_all (k + n) (xs ++ shifted k ys) (λ x m. go x (Memᴰ.append_cases xs m))
  where
    go : (x : ℕ) → Memᴰ x xs ⊎ Memᴰ x (shifted k ys) → x < k + n
    go x (inl m) = let z = below_at k xs h x m in omega arith
    go x (inr m) = let o = shifted_of k ys m in let z = below_at n ys g o.0 o.1 in let e = o.2 in omega arith

-- ---- literals of atoms that come n atoms later
module _ (n l : ℕ) where
  pub atom_shift : atom (2 * n + l) ≡ n + atom l
  unfolding atom
  atom_shift = omega arith

  pub positive_shift : positive (2 * n + l) ≡ positive l
  unfolding positive
  positive_shift = let e : (2 * n + l) % 2 ≡ l % 2 = omega arith in ap (λ z. eqb z 0) e

  pub complement_shift : complement (2 * n + l) ≡ 2 * n + complement l
  complement_shift = go (shape l)
    where
      go : Shape l → complement (2 * n + l) ≡ 2 * n + complement l
      go (is m a e x y c) =
          let d : 2 * n + l ≡ 2 * (n + a) = omega arith in
          let z = complement_even (n + a) in
          ap complement d ∙ z ∙ omega arith
      go (isnt m a e x y c) =
          let d : 2 * n + l ≡ 2 * (n + a) + 1 = omega arith in
          let z = complement_odd (n + a) in
          ap complement d ∙ z ∙ omega arith

pub atoms_shift : (n : ℕ) (ls : List ℕ) → map atom (shifted (2 * n) ls) ≡ shifted n (map atom ls)
unfolding shifted
atoms_shift n [] = refl
atoms_shift n (l ∷ ls) = ap₂ (λ x xs. x ∷ xs) (atom_shift n l) (atoms_shift n ls)

-- ---- two states one after the other: s has n atoms
module _ (n : ℕ) (s v : List ℕ) (len : length s ≡ n) where
  pub value_first : (a : ℕ) → a < n → get_or (s ++ v) a 0 ≡ get_or s a 0
  value_first a h = get_or-append s v 0 a (omega arith)

  pub value_second : (a : ℕ) → get_or (s ++ v) (n + a) 0 ≡ get_or v a 0
  value_second a = ap (λ k. get_or (s ++ v) (k + a) 0) (sym len) ∙ get_or-append-add s v a 0

  pub true_first : (l : ℕ) → l < 2 * n → true_in (s ++ v) l ≡ true_in s l
  unfolding true_in atom
  true_first l h = ap (λ x. eqb x (cond (positive l) 1 0)) (value_first (atom l) (omega arith))

  pub true_second : (l : ℕ) → true_in (s ++ v) (2 * n + l) ≡ true_in v l
  unfolding true_in
  true_second l =
      ap₂ (λ x b. eqb x (cond b 1 0)) (ap (λ a. get_or (s ++ v) a 0) (atom_shift n l) ∙ value_second (atom l)) (positive_shift n l)

  pub all_first : (ls : List ℕ) → all_below (2 * n) ls ≡ true → all_true (s ++ v) ls ≡ all_true s ls
  unfolding all_true
  all_first ls h = all_agree (true_in (s ++ v)) (true_in s) ls (λ l m. true_first l (below_at (2 * n) ls h l m))

  pub all_second : (ls : List ℕ) → all_true (s ++ v) (shifted (2 * n) ls) ≡ all_true v ls
  unfolding all_true shifted
  all_second ls =
      all_map (true_in (s ++ v)) (λ x. 2 * n + x) ls
      ∙ all_agree (λ l. true_in (s ++ v) (2 * n + l)) (true_in v) ls (λ l m. true_second l)

  pub holds_first : (f : List ℕ) → all_below (2 * n) f ≡ true → holds_in (s ++ v) f ≡ holds_in s f
  unfolding holds_in
  holds_first f h = any_agree (true_in (s ++ v)) (true_in s) f (λ l m. true_first l (below_at (2 * n) f h l m))

  pub holds_second : (f : List ℕ) → holds_in (s ++ v) (shifted (2 * n) f) ≡ holds_in v f
  unfolding holds_in shifted
  holds_second f =
      any_map (true_in (s ++ v)) (λ x. 2 * n + x) f
      ∙ any_agree (λ l. true_in (s ++ v) (2 * n + l)) (true_in v) f (λ l m. true_second l)

  -- literals of both
  pub all_both : (ls ms : List ℕ) → all_below (2 * n) ls ≡ true → all_true (s ++ v) (ls ++ shifted (2 * n) ms) ≡ (all_true s ls && all_true v ms)
  unfolding all_true
  all_both ls ms h =
      all_append (true_in (s ++ v)) ls (shifted (2 * n) ms) ∙ ap₂ (λ a b. a && b) (all_first ls h) (all_second ms)

-- ---- rows and operators with no atom before them
row_zero : (r : Row) → shifted_row 0 r ≡ r
unfolding shifted_row
row_zero r = ap₂ (λ e c. record { effect = e; conditions = c }) (omega arith) (shifted_zero r.conditions)

rows_zero : (rs : List Row) → map (shifted_row 0) rs ≡ rs
rows_zero [] = refl
rows_zero (r ∷ rs) = ap₂ (λ x xs. x ∷ xs) (row_zero r) (rows_zero rs)

pub operator_zero : (o : Operator) → shifted_operator 0 o ≡ o
unfolding shifted_operator
operator_zero o = ap₂ (λ p rs. record { precondition = p; rows = rs }) (shifted_zero o.precondition) (rows_zero o.rows)
