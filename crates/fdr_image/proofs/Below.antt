-- A test of all numbers below n. Assumes nothing.
use mathlib.Core.Path.{◌≡◌, refl, ap, ◌∙◌}
use mathlib.Core.List.{◌∷◌}
use mathlib.Core.Bool.{Bool, true}
use Prim.Native.Nat.{ℕ, zero, suc, ◌<◌}
use native.Mathlib.Numerals.{add-one}
use native.Mathlib.Omega.{arith}
use Rattle.std.specs.List.{range_with_len}
use Rattle.std.proofs.iter.Yields.{nat_range_steps}
use Rattle.std.proofs.lemmas.Iterator.{YieldsList, YieldsList-from_range}
use Rattle.definitions.specs.Lists.{all, range, below}
use Rattle.definitions.proofs.ListLaws.{all_at, all_of}
use Rattle.definitions.proofs.SetLaws.{below_of}
use Rattle.definitions.proofs.Walks.{below_in}

module _ (p : ℕ → Bool) (n : ℕ) where
  pub below_at : all p (below n) ≡ true → (x : ℕ) → x < n → p x ≡ true
  below_at h x l = all_at p h (below_in n x l)

  pub below_all : ((x : ℕ) → x < n → p x ≡ true) → all p (below n) ≡ true
  below_all h = all_of p (below n) (λ x m. h x (below_of n m))

-- the numbers below n, as the range of the code yields them
ranged : (a n : ℕ) → range_with_len a n ≡ range a n
unfolding range
ranged a zero = refl
ranged a (suc n) = ap (λ r. a ∷ r) (ap (λ b. range_with_len b n) (add-one a) ∙ ranged (suc a) n)

pub below_yielded : (n : ℕ) → YieldsList nat_range_steps (λ x. x) (record { start = 0; end = n }) (below n)
unfolding below
below_yielded n = rw (← ranged 0 n) (YieldsList-from_range 0 n n refl (omega arith))
