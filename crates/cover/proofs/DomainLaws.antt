-- The words of domains, one domain after the other. Assumes nothing.
use mathlib.Core.Path.{◌≡◌, refl}
use mathlib.Core.List.{List, ◌∷◌}
use Prim.Native.Nat.{ℕ, ◌+◌, ◌-◌, ◌*◌, ◌<◌}
use native.Mathlib.Omega.{arith}
use lib.ListN.{length, get_or, length-append}
use Rattle.definitions.specs.Lists.{each, range, below}
use Rattle.writing.proofs.Ranges.{range_each, pairs_size}
use Rattle.cover.specs.Domains.{domain_by, cover_words}

pub domains_size : (sizes none : List ℕ) (i k : ℕ) → length (each (domain_by sizes none) (range i k)) ≡ 2 * k
unfolding domain_by
domains_size sizes none i k = pairs_size (domain_by sizes none) (λ v. refl) i k

pub domains_next :
    (sizes none : List ℕ) (v n : ℕ) → v < n
    → each (domain_by sizes none) (range v (n - v))
    ≡ (get_or sizes v 0 + get_or none v 0) ∷ get_or none v 0 ∷ each (domain_by sizes none) (range (v + 1) (n - (v + 1)))
unfolding domain_by
domains_next sizes none v n h = range_each (domain_by sizes none) v (n - v) (n - (v + 1)) (omega arith)

pub cover_length : (ps ss ns : List ℕ) (n : ℕ) → length (cover_words ps ss ns n) ≡ 2 * n + length ps
unfolding cover_words below
cover_length ps ss ns n =
    let a = length-append (each (domain_by ss ns) (below n)) ps in
    let b = domains_size ss ns 0 n in
    omega arith
