-- Words two by two, as `chunks_exact(2)` yields them: the domains, places or literals that they are. Assumes nothing.
use mathlib.Core.Path.{◌≡◌, refl, ◌∙◌}
use mathlib.Core.List.{List, [], ◌∷◌, ◌++◌}
use Prim.Native.Nat.{ℕ, zero, suc, ◌<◌}
use native.Mathlib.Omega.{arith}
use lib.ListN.{length, get_or}
use Rattle.std.specs.List.{zip}
use Rattle.std.specs.Slice.Iter.{chunks_exact_rest, chunks_exact_size, chunks_exact_steps}
use Rattle.std.proofs.lemmas.Iterator.{YieldsList}
use Rattle.std.proofs.lemmas.Iterator.Splits.{YieldsList-from_shown_while}
use Rattle.definitions.specs.FdrImage.{domains_in, places_in, literals_in}
use Rattle.fdr_image.specs.Walk.{domain, place, literal}

-- f makes an element of each two words
module _ {A : Type 0} (f : List ℕ → List A) (make : List ℕ → A)
    (nil : f [] ≡ []) (one : (x : ℕ) → f (x ∷ []) ≡ []) (two : (x y : ℕ) (xs : List ℕ) → f (x ∷ (y ∷ xs)) ≡ make (x ∷ (y ∷ [])) ∷ f xs) where
  none_left : (w : List ℕ) → length w < 2 → length (f w) ≡ 0
  none_left [] h = rw nil
  none_left (x ∷ []) h = rw one
  none_left (x ∷ (y ∷ w)) h = absurd (omega arith)

  first_made : (w p rest : List ℕ) → w ≡ p ++ rest → length p ≡ 2 → f w ≡ make p ∷ f rest
  first_made w [] rest e h = absurd (omega arith)
  first_made w (x ∷ []) rest e h = absurd (omega arith)
  first_made w (x ∷ (y ∷ [])) rest e h = rw (e, two)
  first_made w (x ∷ (y ∷ (z ∷ p))) rest e h = absurd (omega arith)

  pairs_made : {s : _} (w : List ℕ) → chunks_exact_rest s ≡ w → chunks_exact_size s ≡ 2 → YieldsList chunks_exact_steps (λ b. make b.now) s (f w)
  pairs_made {s} w e h =
      rw (← e)
      (YieldsList-from_shown_while chunks_exact_steps (λ b. make b.now) (λ s. f (chunks_exact_rest s)) (λ s. chunks_exact_size s ≡ 2)
      (λ s t e h. none_left (chunks_exact_rest s) (omega arith))
      (λ s x t e h. (h.0 ∙ e, first_made (chunks_exact_rest s) x.now (chunks_exact_rest t) h.1.0 (h.1.1 ∙ e))) s h)

pub domains_made : {s : _} (w : List ℕ) → chunks_exact_rest s ≡ w → chunks_exact_size s ≡ 2
    → YieldsList chunks_exact_steps (λ b. domain (get_or b.now 0 0) (get_or b.now 1 0)) s (domains_in w)
unfolding domains_in
domains_made = pairs_made domains_in (λ p. domain (get_or p 0 0) (get_or p 1 0)) refl (λ x. refl) (λ x y xs. refl)

pub places_made : {s : _} (w : List ℕ) → chunks_exact_rest s ≡ w → chunks_exact_size s ≡ 2
    → YieldsList chunks_exact_steps (λ b. place (get_or b.now 0 0) (get_or b.now 1 0)) s (places_in w)
unfolding places_in
places_made = pairs_made places_in (λ p. place (get_or p 0 0) (get_or p 1 0)) refl (λ x. refl) (λ x y xs. refl)

pub literals_made : {s : _} (w : List ℕ) → chunks_exact_rest s ≡ w → chunks_exact_size s ≡ 2
    → YieldsList chunks_exact_steps (λ b. literal (get_or b.now 0 0) (get_or b.now 1 0)) s (literals_in w)
unfolding literals_in
literals_made = pairs_made literals_in (λ p. literal (get_or p 0 0) (get_or p 1 0)) refl (λ x. refl) (λ x y xs. refl)

-- the pairs themselves, each of which has two words
pub twos : List ℕ → List (List ℕ)
twos [] = []
twos (x ∷ []) = []
twos (x ∷ (y ∷ xs)) = (x ∷ (y ∷ [])) ∷ twos xs

pub twos_made : {s : _} (w : List ℕ) → chunks_exact_rest s ≡ w → chunks_exact_size s ≡ 2 → YieldsList chunks_exact_steps (λ b. b.now) s (twos w)
unfolding twos
twos_made = pairs_made twos (λ p. p) refl (λ x. refl) (λ x y xs. refl)

pub two_zipped : (xs w : List ℕ) (k : ℕ) (d : ℕ × List ℕ) → k < length (zip xs (twos w)) → length (get_or (zip xs (twos w)) k d).1 ≡ 2
unfolding twos
two_zipped [] w k d h = absurd (omega arith)
two_zipped (x ∷ xs) [] k d h = absurd (omega arith)
two_zipped (x ∷ xs) (y ∷ []) k d h = absurd (omega arith)
two_zipped (x ∷ xs) (y ∷ (z ∷ w)) zero d h = refl
two_zipped (x ∷ xs) (y ∷ (z ∷ w)) (suc k) d h = two_zipped xs w k d (omega arith)
