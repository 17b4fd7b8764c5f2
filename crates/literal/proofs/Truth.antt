-- The truth of a literal, by the byte of its atom. Assumes nothing.
use mathlib.Core.Path.{◌≡◌}
use mathlib.Core.Bool.{true, false}
use mathlib.Core.List.{List}
use Prim.Native.Nat.{ℕ}
use lib.Dec.{eqb}
use lib.ListN.{get_or}
use Rattle.definitions.specs.Literal.{atom, positive, true_in}

module _ (s : List ℕ) (l a x : ℕ) (at : a ≡ atom l) (e : x ≡ get_or s a 0) where
  pub true_positive : positive l ≡ true → eqb x 1 ≡ true_in s l
  unfolding true_in
  true_positive h = rw (h, ← at, ← e)

  pub true_negative : positive l ≡ false → eqb x 0 ≡ true_in s l
  unfolding true_in
  true_negative h = rw (h, ← at, ← e)
