-- Laws of the first element of a list that fails a test. Assumes nothing.
use mathlib.Core.Bool.{Bool, true, false, ◌&&◌}
use mathlib.Core.List.{List, [], ◌∷◌}
use mathlib.Core.Option.{none, some}
use mathlib.Core.Path.{◌≡◌, refl, sym, ◌∙◌, ap}
use Prim.Native.Nat.{ℕ, zero, suc, ◌+◌, ◌<◌}
use native.Mathlib.Nat.{add-zero, add-suc, suc-add}
use native.Mathlib.Omega.{arith}
use lib.ListN.{length, get_or}
use Rattle.definitions.specs.Lists.{all, first_fail}
use Rattle.definitions.proofs.ListLaws.{some_none, none_some, all_at, and_both, get_or_mem}

module _ {A : Type 0} (p : A → Bool) where
  -- no element fails
  pub none_all : (i : ℕ) (xs : List A) → first_fail p i xs ≡ none → all p xs ≡ true
  unfolding first_fail all
  none_all i [] e = refl
  none_all i (x ∷ xs) e = go (p x) refl (λ h. none_all (suc i) xs h)
    where
      go : (b : Bool) → p x ≡ b → (first_fail p (suc i) xs ≡ none → all p xs ≡ true) → (p x && all p xs) ≡ true
      go true h rec = and_both h (rec (rw (h, first_fail) at e))
      go false h rec = some_none (rw (h, first_fail) at e)

  module _ (d : A) where
    -- the elements before place j pass, and the one there fails
    pub record First (xs : List A) (j : ℕ) : Type 0 where
      pub inside : j < length xs
      pub before : (k : ℕ) → k < j → p (get_or xs k d) ≡ true
      pub fails : p (get_or xs j d) ≡ false

    -- every element passes
    pub first_none : (i : ℕ) (xs : List A) → ((k : ℕ) → k < length xs → p (get_or xs k d) ≡ true) → first_fail p i xs ≡ none
    unfolding first_fail
    first_none i [] h = refl
    first_none i (x ∷ xs) h = rw (h 0 (omega arith), first_fail) (first_none (suc i) xs (λ k l. h (suc k) (omega arith)))

    pub all_none_lem : (i : ℕ) (xs : List A) → all p xs ≡ true → first_fail p i xs ≡ none
    all_none_lem i xs h = first_none i xs (λ k l. all_at p h (get_or_mem xs k d l))

    pub none_first : (i : ℕ) (xs : List A) → first_fail p i xs ≡ none → (k : ℕ) → k < length xs → p (get_or xs k d) ≡ true
    none_first i xs e k l = all_at p (none_all i xs e) (get_or_mem xs k d l)

    -- the first one fails at place j
    pub first_some : (i : ℕ) (xs : List A) (j : ℕ) → First xs j → first_fail p i xs ≡ some (i + j)
    unfolding first_fail
    first_some i [] j f = absurd (let l = f.inside in omega arith)
    first_some i (x ∷ xs) zero f = rw (f.fails, first_fail, add-zero)
    first_some i (x ∷ xs) (suc j) f =
        rw (f.before 0 (omega arith), first_fail) (first_some (suc i) xs j (behind f) ∙ ap some (suc-add i j ∙ sym (add-suc i j)))
      where
        behind : First (x ∷ xs) (suc j) → First xs j
        behind f = record { inside = let l = f.inside in omega arith; before = λ k l. f.before (suc k) (omega arith); fails = f.fails }

    pub some_first : (i : ℕ) (xs : List A) (k : ℕ) → first_fail p i xs ≡ some k → (j : ℕ) × (k ≡ i + j) × First xs j
    unfolding first_fail
    some_first i [] k e = none_some e
    some_first i (x ∷ xs) k e = go (p x) refl (λ h. some_first (suc i) xs k h)
      where
        ahead : p x ≡ true → (j : ℕ) → First xs j → First (x ∷ xs) (suc j)
        ahead h j f = record { inside = let l = f.inside in omega arith; before = all_before; fails = f.fails }
          where
            all_before : (k : ℕ) → k < suc j → p (get_or (x ∷ xs) k d) ≡ true
            all_before zero l = h
            all_before (suc k) l = f.before k (omega arith)

        go :
            (b : Bool) → p x ≡ b → (first_fail p (suc i) xs ≡ some k → (j : ℕ) × (k ≡ suc i + j) × First xs j)
            → (j : ℕ) × (k ≡ i + j) × First (x ∷ xs) j
        go true h rec = let r = rec (rw (h, first_fail) at e) in let s = r.1 in (suc r.0, omega arith, ahead h r.0 r.2)
        go false h rec =
            let same : some i ≡ some k = rw (h, first_fail) at e in
            let s : k ≡ i = cc in
            (0, omega arith, record { inside = omega arith; before = λ k l. absurd (omega arith); fails = h })
