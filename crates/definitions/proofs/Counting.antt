-- Lists in which no element stands twice; such a list that is part of another is no longer. Assumes nothing.
use mathlib.Core.Bool.{Bool, true, false}
use mathlib.Core.Logic.{◌⊎◌, inl, inr}
use mathlib.Core.Path.{◌≡◌, refl, sym, ◌∙◌, ap, subst}
use mathlib.Core.List.Memᴰ
use mathlib.Core.List.{List, [], ◌∷◌, Memᴰ}
use Prim.Native.Nat.{ℕ, suc, ◌≤◌, ◌<◌}
use native.Mathlib.Omega.{arith}
use lib.ListN.{length}
use Rattle.definitions.specs.Lists.{keep, ascending, Distinct, nothing, another}
use Rattle.definitions.proofs.ListLaws.{keep_of, keep_yes, keep_no, later_ascends, above_low}

module _ {A : Type 0} where
  -- every element of the one is one of the other
  abbrev pub Part : List A → List A → Type 0
  Part xs ys = (x : A) → Memᴰ x xs → Memᴰ x ys

  -- the list without one of its elements
  pub record Without (x : A) (ys : List A) : Type 0 where
    pub rest : List A
    pub shorter : length ys ≡ suc (length rest)
    pub others : (y : A) → Memᴰ y ys → (y ≡ x) ⊎ Memᴰ y rest

  without : {x : A} (ys : List A) → Memᴰ x ys → Without x ys
  without [] m = absurd (Memᴰ.not-nil m)
  without {x} (y ∷ ys) m = go (Memᴰ.cases_cons m) (λ k. without ys k)
    where
      first : x ≡ y → (z : A) → (z ≡ y) ⊎ Memᴰ z ys → (z ≡ x) ⊎ Memᴰ z ys
      first e z (inl h) = inl (h ∙ sym e)
      first e z (inr k) = inr k

      push : (w : Without x ys) (z : A) → (z ≡ x) ⊎ Memᴰ z w.rest → (z ≡ x) ⊎ Memᴰ z (y ∷ w.rest)
      push w z (inl h) = inl h
      push w z (inr k) = inr (Memᴰ.tail k)

      later : (w : Without x ys) (z : A) → (z ≡ y) ⊎ Memᴰ z ys → (z ≡ x) ⊎ Memᴰ z (y ∷ w.rest)
      later w z (inl h) = inr (Memᴰ.head h)
      later w z (inr k) = push w z (w.others z k)

      go : (x ≡ y) ⊎ Memᴰ x ys → (Memᴰ x ys → Without x ys) → Without x (y ∷ ys)
      go (inl e) rec = record { rest = ys; shorter = refl; others = λ z k. first e z (Memᴰ.cases_cons k) }
      go (inr k) rec =
          let w = rec k in
          record { rest = y ∷ w.rest; shorter = ap suc w.shorter; others = λ z j. later w z (Memᴰ.cases_cons j) }

  pub part_length : {xs : List A} → Distinct xs → (ys : List A) → Part xs ys → length xs ≤ length ys
  part_length nothing ys p = omega arith
  part_length (another {x} {xs} new d) ys p =
      let w = without ys (p x (Memᴰ.head refl)) in
      let h = part_length d w.rest (λ y m. go w y m (w.others y (p y (Memᴰ.tail m)))) in
      let e = w.shorter in
      omega arith
    where
      go : (w : Without x ys) (y : A) → Memᴰ y xs → (y ≡ x) ⊎ Memᴰ y w.rest → Memᴰ y w.rest
      go w y m (inl e) = absurd (new (subst (λ (z : A). Memᴰ z xs) e m))
      go w y m (inr k) = k

  pub keep_distinct : (p : A → Bool) {xs : List A} → Distinct xs → Distinct (keep p xs)
  unfolding keep
  keep_distinct p nothing = nothing
  keep_distinct p (another {x} {xs} new d) = go (p x) refl (keep_distinct p d)
    where
      go : (b : Bool) → p x ≡ b → Distinct (keep p xs) → Distinct (keep p (x ∷ xs))
      go true e rec = rw (keep_yes p x xs e) (another (λ m. new (keep_of p xs m).0) rec)
      go false e rec = rw (keep_no p x xs e) rec

-- ---- ascending lists
pub ascending_distinct : (f : List ℕ) → ascending f ≡ true → Distinct f
unfolding ascending
ascending_distinct [] h = nothing
ascending_distinct (x ∷ f) h = another (λ m. let k : x < x = above_low x f h x m in omega arith) (ascending_distinct f (later_ascends x f h))

-- one that is part of another and no shorter is that one
pub part_same : (f g : List ℕ) → ascending f ≡ true → ascending g ≡ true → Part f g → length g ≤ length f → f ≡ g
unfolding ascending
part_same [] [] a b p h = refl
part_same [] (y ∷ g) a b p h = absurd (omega arith)
part_same (x ∷ f) [] a b p h = absurd (Memᴰ.not-nil (p x (Memᴰ.head refl)))
part_same (x ∷ f) (y ∷ g) a b p h =
    go (Memᴰ.cases_cons (p x (Memᴰ.head refl))) (λ q. part_same f g (later_ascends x f a) (later_ascends y g b) q (omega arith))
  where
    -- the rest is part of the rest
    behind : x ≡ y → (z : ℕ) → Memᴰ z f → (z ≡ y) ⊎ Memᴰ z g → Memᴰ z g
    behind e z m (inl k) = let l = above_low x f a z m in absurd (omega arith)
    behind e z m (inr k) = k

    -- if y is below x, all of the first list is part of the rest of the second, which is too short
    all_behind : y < x → (z : ℕ) → (z ≡ x) ⊎ Memᴰ z f → (z ≡ y) ⊎ Memᴰ z g → Memᴰ z g
    all_behind l z (inl j) (inl k) = absurd (omega arith)
    all_behind l z (inr j) (inl k) = let s = above_low x f a z j in absurd (omega arith)
    all_behind l z j (inr k) = k

    go : (x ≡ y) ⊎ Memᴰ x g → (Part f g → f ≡ g) → (x ∷ f) ≡ (y ∷ g)
    go (inl e) rec = let r = rec (λ z m. behind e z m (Memᴰ.cases_cons (p z (Memᴰ.tail m)))) in cc
    go (inr k) rec =
        let l = above_low y g b x k in
        let s = part_length (ascending_distinct (x ∷ f) a) g (λ z m. all_behind l z (Memᴰ.cases_cons m) (Memᴰ.cases_cons (p z m))) in
        absurd (omega arith)
