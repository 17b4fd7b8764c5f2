-- A flag that is set, bytes at places, and a place that has zero. Assumes nothing.
use mathlib.Core.Path.{◌≡◌, refl, sym, ◌∙◌, ap, subst}
use mathlib.Core.Logic.{◌⊎◌, inl, inr}
use mathlib.Core.List.{List, [], ◌∷◌}
use mathlib.Core.Bool.{Bool, true, false, cond, ◌&&◌, ◌||◌}
use Prim.Native.Nat.{ℕ, ◌<◌}
use lib.Dec.{ltb, eqb}
use lib.ListN.{length, get_or, set, length-set}
use lib.Seq.{get_or-set_same, get_or-set_other}
use borrow.Author.Tests.{ltb-true, eqb-true, eqb-false, eq-eqb, ne_eqb}
use Rattle.definitions.specs.Lists.{any}
use Rattle.definitions.proofs.ListLaws.{decide, and_left, and_right, set_if_length, any_agree}
use Rattle.literal.specs.Mark.{mark_if, put_where}

pub mark_length : (t : Bool) (m : List ℕ) (l : ℕ) → length (mark_if t m l) ≡ length m
mark_length true m l = length-set m l 1
mark_length false m l = refl

pub mark_is : (t : Bool) (m : List ℕ) (l : ℕ) → mark_if t m l ≡ cond t (set m l 1) m
mark_is true m l = refl
mark_is false m l = refl

-- ---- bytes at places
-- a place where that of i becomes x
pub set_if_at : (b : Bool) (S : List ℕ) (i x k : ℕ) → k < length S → get_or (cond b (set S i x) S) k 0 ≡ cond (eqb i k && b) x (get_or S k 0)
set_if_at b S i x k low = go b (decide (eqb i k))
  where
    go : (b : Bool) → (eqb i k ≡ true) ⊎ (eqb i k ≡ false) → get_or (cond b (set S i x) S) k 0 ≡ cond (eqb i k && b) x (get_or S k 0)
    go false (inl h) = rw h
    go false (inr h) = rw h
    go true (inl h) =
        let e : i ≡ k = eqb-true i k h in
        rw (h, e) (get_or-set_same S k x 0 low)
    go true (inr h) =
        let ne = eqb-false i k h in
        rw h (get_or-set_other S i k x 0 (λ e. ne (sym e)))

module _ {A : Type 0} (v : ℕ) (place : A → ℕ) (test : A → Bool) where
  pub put_length : (xs : List A) (m : List ℕ) → length (put_where v place test xs m) ≡ length m
  put_length [] m = refl
  put_length (x ∷ xs) m = put_length xs (cond (test x) (set m (place x) v) m) ∙ set_if_length (test x) m (place x) v

  -- a byte is v where an element that passes has its place, else as it was
  pub put_at :
      (xs : List A) (m : List ℕ) (k : ℕ) → k < length m
      → get_or (put_where v place test xs m) k 0 ≡ cond (any (λ x. eqb (place x) k && test x) xs) v (get_or m k 0)
  unfolding any
  put_at [] m k low = refl
  put_at (x ∷ xs) m k low =
      put_at xs (cond (test x) (set m (place x) v) m) k (subst (λ (n : ℕ). k < n) (sym (set_if_length (test x) m (place x) v)) low)
      ∙ ap (cond more v) (set_if_at (test x) m (place x) v k low)
      ∙ go (eqb (place x) k && test x) more
    where
      more : Bool
      more = any (λ x. eqb (place x) k && test x) xs

      go : (a b : Bool) → cond b v (cond a v (get_or m k 0)) ≡ cond (a || b) v (get_or m k 0)
      go true true = refl
      go true false = refl
      go false b = refl

-- the same where every element has its byte put
pub put_each_at :
    {A : Type 0} (v : ℕ) (place : A → ℕ) (xs : List A) (m : List ℕ) (k : ℕ) → k < length m
    → get_or (put_where v place (λ x. true) xs m) k 0 ≡ cond (any (λ x. eqb k (place x)) xs) v (get_or m k 0)
put_each_at v place xs m k low =
    put_at v place (λ x. true) xs m k low
    ∙ ap (λ (b : Bool). cond b v (get_or m k 0))
    (any_agree (λ x. eqb (place x) k && true) (λ x. eqb k (place x)) xs (λ x i. turned (place x) (decide (eqb (place x) k))))
  where
    turned : (y : ℕ) → (eqb y k ≡ true) ⊎ (eqb y k ≡ false) → (eqb y k && true) ≡ eqb k y
    turned y (inl h) = rw h (sym (eq-eqb k y (sym (eqb-true y k h))))
    turned y (inr h) = rw h (sym (ne_eqb k y (λ e. eqb-false y k h (sym e))))

-- a place that has zero
pub zero_place : (s : List ℕ) (i : ℕ) (r : Bool) → r ≡ (ltb i (length s) && eqb (get_or s i 0) 0) → r ≡ true → (get_or s i 0 ≡ 0) × (i < length s)
zero_place s i r e h = (
  eqb-true (get_or s i 0) 0 (and_right (ltb i (length s)) (eqb (get_or s i 0) 0) (sym e ∙ h)),
  ltb-true i (length s) (and_left (ltb i (length s)) (eqb (get_or s i 0) 0) (sym e ∙ h)),
)
