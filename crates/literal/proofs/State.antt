-- The bytes of a task's state. Assumes nothing.
use mathlib.Core.Path.{◌≡◌, sym, ◌∙◌}
use mathlib.Core.List.{List}
use mathlib.Core.Bool.{Bool, true, false}
use Prim.Native.Nat.{ℕ}
use lib.Dec.{ltb, eqb}
use lib.ListN.{length}
use borrow.Author.Tests.{eq-eqb, ne_eqb, eqb-true}
use Rattle.definitions.specs.Lists.{all}
use Rattle.definitions.specs.Literal.{all_below, is_state}
use Rattle.definitions.proofs.ListLaws.{and_left}

pub state_long : (n : ℕ) (s : List ℕ) → (length s ≡ n → ⊥) → false ≡ is_state n s
unfolding is_state
state_long n s h = rw (ne_eqb (length s) n h)

pub state_bytes : (n : ℕ) (s : List ℕ) → length s ≡ n → is_state n s ≡ all (λ x. ltb x 2) s
unfolding is_state all_below
state_bytes n s h = rw (eq-eqb (length s) n h)

pub state_length : (n : ℕ) (s : List ℕ) (r : Bool) → r ≡ is_state n s → r ≡ true → length s ≡ n
unfolding is_state
state_length n s r e h = eqb-true (length s) n (and_left (eqb (length s) n) (all_below 2 s) (sym e ∙ h))
