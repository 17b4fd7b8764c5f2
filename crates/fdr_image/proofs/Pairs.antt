-- Words in pairs: domains, places of atoms and literals, by their index. Assumes nothing.
use mathlib.Core.Path.{◌≡◌, refl}
use mathlib.Core.List.{List, [], ◌∷◌}
use Prim.Native.Nat.{ℕ, zero, suc, ◌+◌, ◌*◌, ◌/◌, ◌<◌}
use native.Mathlib.Omega.{arith}
use lib.ListN.{length, get_or}
use Rattle.definitions.specs.Groups.{Domain, Place}
use Rattle.definitions.specs.Fdr.{FdrLiteral}
use Rattle.definitions.specs.FdrImage.{domains_in, places_in, literals_in}
use Rattle.fdr_image.specs.Walk.{domain, place, literal}

-- f makes an element of each pair of words
module _ {A : Type 0} (f : List ℕ → List A) (make : ℕ → ℕ → A)
    (nil : f [] ≡ []) (one : (x : ℕ) → f (x ∷ []) ≡ []) (two : (x y : ℕ) (xs : List ℕ) → f (x ∷ (y ∷ xs)) ≡ make x y ∷ f xs) where
  pairs_length : (w : List ℕ) → length (f w) ≡ length w / 2
  pairs_length [] = rw nil
  pairs_length (x ∷ []) = rw one
  pairs_length (x ∷ (y ∷ xs)) = rw two (let e = pairs_length xs in omega arith)

  pairs_at : (w : List ℕ) (i : ℕ) (d : A) → i < length w / 2 → get_or (f w) i d ≡ make (get_or w (2 * i) 0) (get_or w (2 * i + 1) 0)
  pairs_at [] i d h = absurd (omega arith)
  pairs_at (x ∷ []) i d h = absurd (omega arith)
  pairs_at (x ∷ (y ∷ xs)) zero d h = rw two
  pairs_at (x ∷ (y ∷ xs)) (suc i) d h =
      let e : 2 * suc i + 1 ≡ suc (suc (2 * i + 1)) = omega arith in
      let e' : 2 * suc i ≡ suc (suc (2 * i)) = omega arith in
      rw (two, e, e') (pairs_at xs i d (omega arith))

pub domains_length : (w : List ℕ) → length (domains_in w) ≡ length w / 2
unfolding domains_in
domains_length = pairs_length domains_in domain refl (λ x. refl) (λ x y xs. refl)

pub domains_at : (w : List ℕ) (i : ℕ) (d : Domain) → i < length w / 2 → get_or (domains_in w) i d ≡ domain (get_or w (2 * i) 0) (get_or w (2 * i + 1) 0)
unfolding domains_in
domains_at = pairs_at domains_in domain refl (λ x. refl) (λ x y xs. refl)

pub places_length : (w : List ℕ) → length (places_in w) ≡ length w / 2
unfolding places_in
places_length = pairs_length places_in place refl (λ x. refl) (λ x y xs. refl)

pub places_at : (w : List ℕ) (i : ℕ) (d : Place) → i < length w / 2 → get_or (places_in w) i d ≡ place (get_or w (2 * i) 0) (get_or w (2 * i + 1) 0)
unfolding places_in
places_at = pairs_at places_in place refl (λ x. refl) (λ x y xs. refl)

pub literals_length : (w : List ℕ) → length (literals_in w) ≡ length w / 2
unfolding literals_in
literals_length = pairs_length literals_in literal refl (λ x. refl) (λ x y xs. refl)

pub literals_at : (w : List ℕ) (i : ℕ) (d : FdrLiteral) → i < length w / 2 → get_or (literals_in w) i d ≡ literal (get_or w (2 * i) 0) (get_or w (2 * i + 1) 0)
unfolding literals_in
literals_at = pairs_at literals_in literal refl (λ x. refl) (λ x y xs. refl)

-- the words of an atom
module _ (w : List ℕ) (i : ℕ) (inside : i < length (places_in w)) where
  pub place_inside : 2 * i + 1 < length w
  place_inside = omega (arith, places_length w)

  pub place_variable : get_or w (2 * i) 0 ≡ (get_or (places_in w) i (place 0 0)).variable
  place_variable = rw (places_at w i (place 0 0) (omega (arith, places_length w)))

  pub place_value : get_or w (2 * i + 1) 0 ≡ (get_or (places_in w) i (place 0 0)).value
  place_value = rw (places_at w i (place 0 0) (omega (arith, places_length w)))
