-- Domains and values, for the walks over them. Assumes nothing.
use mathlib.Core.Path.{◌≡◌, refl, ap}
use mathlib.Core.List.{List, [], ◌∷◌}
use mathlib.Core.Bool.{Bool, true, false, ◌&&◌}
use Prim.Native.Nat.{ℕ, zero, suc, ◌+◌, ◌-◌, ◌*◌, ◌≤◌, ◌<◌}
use native.Mathlib.Omega.{arith}
use lib.Dec.{leb, ltb}
use lib.ListN.{length, get_or}
use borrow.Author.Tests.{lt-ltb, le-ltb, ltb-true, eq-eqb, ne_eqb}
use Rattle.std.specs.List.{zip}
use Rattle.definitions.specs.Lists.{all}
use Rattle.definitions.specs.Groups.{Domain}
use Rattle.definitions.specs.Fdr.{no_domain, atom_values}
use Rattle.definitions.specs.FdrImage.{domains_in, is_atom_value, values_right}
use Rattle.definitions.proofs.ListLaws.{never, and_left, and_right}
use Rattle.fdr_image.specs.Walk.{domains_right}
use Rattle.fdr_image.proofs.Pairs.{domains_length, domains_at}

-- the words of variable v's domain
module _ (w : List ℕ) (v : ℕ) (inside : v < length (domains_in w)) where
  pub pair_inside : 2 * v + 1 < length w
  pair_inside = omega (arith, domains_length w)

  pub values_at_lem : get_or w (2 * v) 0 ≡ (get_or (domains_in w) v no_domain).values
  values_at_lem = rw (domains_at w v no_domain (omega (arith, domains_length w)))

  pub flag_at : get_or w (2 * v + 1) 0 ≡ (get_or (domains_in w) v no_domain).none
  flag_at = rw (domains_at w v no_domain (omega (arith, domains_length w)))

-- atom values
pub atom_values_rest : (d : Domain) (x n : ℕ) → x ≡ d.values → n ≡ d.none → x - n ≡ atom_values d
unfolding atom_values
atom_values_rest d x n ex en = rw (ex, en)

module _ (D : List Domain) (v x : ℕ) where
  pub atom_value_out : length D ≤ v → false ≡ is_atom_value D v x
  unfolding is_atom_value
  atom_value_out h = rw (le-ltb v (length D) h)

  pub atom_value_in : (n : ℕ) → v < length D → n ≡ atom_values (get_or D v no_domain) → ltb x n ≡ is_atom_value D v x
  unfolding is_atom_value
  atom_value_in n h e = rw (lt-ltb v (length D) h, e)

-- the walk over the flags
pub domains_off : (n : ℕ) (w : List ℕ) → (length w ≡ 2 * n → ⊥) → false ≡ domains_right n w
unfolding domains_right
domains_off n w h = rw (ne_eqb (length w) (2 * n) h)

pub domains_on : (n : ℕ) (w : List ℕ) → length w ≡ 2 * n → domains_right n w ≡ all (λ d. leb d.none 1) (domains_in w)
unfolding domains_right
domains_on n w h = rw (eq-eqb (length w) (2 * n) h)

-- the walk over values
pub values_unlike : (D : List Domain) (xs : List ℕ) → (length xs ≡ length D → ⊥) → false ≡ values_right D xs
unfolding values_right
values_unlike [] [] h = absurd (h refl)
values_unlike [] (x ∷ xs) h = refl
values_unlike (d ∷ D) [] h = refl
values_unlike (d ∷ D) (x ∷ xs) h = go (ltb x d.values) (values_unlike D xs (λ e. h (ap suc e)))
  where
    go : (b : Bool) → false ≡ values_right D xs → false ≡ (b && values_right D xs)
    go true e = e
    go false e = refl

pub values_zipped : (D : List Domain) (xs : List ℕ) → length xs ≡ length D → all (λ p. ltb p.0 p.1.values) (zip xs D) ≡ values_right D xs
unfolding values_right all
values_zipped [] [] h = refl
values_zipped [] (x ∷ xs) h = absurd (omega arith)
values_zipped (d ∷ D) [] h = absurd (omega arith)
values_zipped (d ∷ D) (x ∷ xs) h = ap (λ r. ltb x d.values && r) (values_zipped D xs (omega arith))

-- a right value for each variable
pub values_length : (D : List Domain) (s : List ℕ) → values_right D s ≡ true → length s ≡ length D
unfolding values_right
values_length [] [] h = refl
values_length [] (x ∷ s) h = never h refl
values_length (d ∷ D) [] h = never h refl
values_length (d ∷ D) (x ∷ s) h = ap suc (values_length D s (and_right (ltb x d.values) (values_right D s) h))

pub values_some : (D : List Domain) (s : List ℕ) → values_right D s ≡ true → (v : ℕ) → v < length D → 1 ≤ (get_or D v no_domain).values
unfolding values_right
values_some [] s h v l = absurd (omega arith)
values_some (d ∷ D) [] h v l = never h refl
values_some (d ∷ D) (x ∷ s) h zero l = let z = ltb-true x d.values (and_left (ltb x d.values) (values_right D s) h) in omega arith
values_some (d ∷ D) (x ∷ s) h (suc v) l = values_some D s (and_right (ltb x d.values) (values_right D s) h) v (omega arith)
