-- The complement has the other last bit. Assumes nothing.
use mathlib.Core.Path.{◌≡◌, refl, ◌∙◌, ap}
use Prim.Native.Nat.{ℕ, zero, suc, ◌+◌, ◌*◌, ◌/◌, ◌%◌}
use native.Mathlib.Omega.{arith}
use lib.Bits.{bit_xor, differ, xor_step, xor_zero_r}
use borrow.Author.Tests.{eq-eqb, ne_eqb}
use Rattle.definitions.specs.Literal.{positive, complement}

pub flipped : (l : ℕ) → bit_xor l 1 ≡ complement l
unfolding complement positive
flipped l = xor_step l 1 ∙ ap (λ (x : ℕ). x * 2 + differ (l % 2) 1) (xor_zero_r (l / 2)) ∙ last (l % 2) refl
  where
    last : (r : ℕ) → l % 2 ≡ r → l / 2 * 2 + differ r 1 ≡ complement l
    last zero h = rw (eq-eqb (l % 2) 0 h) (omega arith)
    last (suc zero) h = rw (ne_eqb (l % 2) 0 (omega arith)) (omega arith)
    last (suc (suc r)) h = absurd (omega arith)
