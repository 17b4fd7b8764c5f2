-- Laws of lines that are written field after field, and of lines one after the other. Assumes nothing.
use mathlib.Core.Path.{◌≡◌, refl, ◌∙◌, ap}
use mathlib.Core.List.{List, [], ◌∷◌, ◌++◌, map}
use Prim.Native.Nat.{ℕ, zero, suc, ◌+◌, ◌≤◌, ◌<◌}
use native.Mathlib.Numerals.{add-one}
use native.Mathlib.Omega.{arith}
use lib.ListN.{length, get_or, drop, length-append, drop_of_length-le}
use Rattle.definitions.specs.Lists.{each}
use Rattle.definitions.specs.Text.{line}
use Rattle.definitions.proofs.Walks.{left_here}
use Rattle.text.specs.Fields.{separator, fields_from}

-- fields after the first are written alike
fields_on : (i j : ℕ) (xs : List (List ℕ)) → fields_from (suc i) xs ≡ fields_from (suc j) xs
unfolding fields_from separator
fields_on i j [] = refl
fields_on i j (x ∷ xs) = ap (λ (z : List ℕ). 32 ∷ (x ++ z)) (fields_on (suc i) (suc j) xs)

-- a line is its fields from the first on
pub line_fields : (xs : List (List ℕ)) → line xs ≡ fields_from 0 xs
unfolding line fields_from separator
line_fields [] = refl
line_fields (x ∷ []) = refl
line_fields (x ∷ (y ∷ xs)) = ap (λ (z : List ℕ). x ++ (32 ∷ z)) (line_fields (y ∷ xs) ∙ ap (λ (z : List ℕ). y ++ z) (fields_on 0 1 xs))

-- a field before others
pub line_more : (x y : List ℕ) (xs : List (List ℕ)) → line (x ∷ (xs ++ (y ∷ []))) ≡ x ++ (32 ∷ line (xs ++ (y ∷ [])))
unfolding line
line_more x y [] = refl
line_more x y (z ∷ xs) = refl

-- ---- separators
pub separator_first : (i : ℕ) → i ≡ 0 → separator i ≡ []
unfolding separator
separator_first i e = rw e

pub separator_next : (i : ℕ) → (i ≡ 0 → ⊥) → separator i ≡ 32 ∷ []
unfolding separator
separator_next zero h = absurd (h refl)
separator_next (suc i) h = refl

-- ---- the fields that f gives of a list, from element i on
module _ {A : Type 0} (f : A → List ℕ) (xs : List A) (i : ℕ) where
  pub fields_next :
      (d x : A) → x ≡ get_or xs i d → i < length xs
      → fields_from i (map f (drop i xs)) ≡ separator i ++ (f x ++ fields_from (i + 1) (map f (drop (i + 1) xs)))
  unfolding fields_from
  fields_next d x e h = rw (left_here xs i d x e h, add-one)

  pub fields_end : length xs ≤ i → fields_from i (map f (drop i xs)) ≡ 10 ∷ []
  unfolding fields_from
  fields_end h = rw (drop_of_length-le xs {i = i} h)

  -- ---- the texts that f gives of it, one after the other
  pub each_next : (d x : A) → x ≡ get_or xs i d → i < length xs → each f (drop i xs) ≡ f x ++ each f (drop (i + 1) xs)
  unfolding each
  each_next d x e h = rw (left_here xs i d x e h)

  pub each_end : length xs ≤ i → each f (drop i xs) ≡ []
  unfolding each
  each_end h = rw (drop_of_length-le xs {i = i} h)

  -- their bytes added up: n so far, and those from element i on
  module _ (whole n : ℕ) (so_far : whole ≡ n + length (each f (drop i xs))) where
    pub sum_next :
        (d x : A) → x ≡ get_or xs i d → i < length xs → (bytes : ℕ) → bytes ≡ length (f x)
        → whole ≡ n + bytes + length (each f (drop (i + 1) xs))
    sum_next d x e h bytes q =
        let a = ap length (each_next d x e h) in
        let b = length-append (f x) (each f (drop (i + 1) xs)) in
        omega arith

    pub sum_end : length xs ≤ i → n ≡ whole
    sum_end h = let a = ap length (each_end h) in omega arith
