-- Words of each number of a range, number after number. Assumes nothing.
use mathlib.Core.Path.{◌≡◌, refl}
use mathlib.Core.List.{List, [], ◌++◌}
use Prim.Native.Nat.{ℕ, zero, suc, ◌+◌, ◌*◌}
use native.Mathlib.Numerals.{add-one}
use native.Mathlib.Omega.{arith}
use lib.ListN.{length, length-append}
use Rattle.definitions.specs.Lists.{each, range}

-- the numbers from i on, k of them, of which the first is i
pub range_each : {A : Type 0} (f : ℕ → List A) (i k k' : ℕ) → k ≡ suc k' → each f (range i k) ≡ f i ++ each f (range (i + 1) k')
unfolding each range
range_each f i k k' e = rw (e, add-one)

pub range_each_end : {A : Type 0} (f : ℕ → List A) (i k : ℕ) → k ≡ 0 → each f (range i k) ≡ []
unfolding each range
range_each_end f i k e = rw e

-- two words of each number
pub pairs_size : (f : ℕ → List ℕ) → ((v : ℕ) → length (f v) ≡ 2) → (i k : ℕ) → length (each f (range i k)) ≡ 2 * k
unfolding each range
pairs_size f h i zero = refl
pairs_size f h i (suc k) =
    let a = length-append (f i) (each f (range (suc i) k)) in
    let b = h i in
    let c = pairs_size f h (suc i) k in
    omega arith
