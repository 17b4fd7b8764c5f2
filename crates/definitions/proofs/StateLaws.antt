-- States: the initial state is one, and so is the state after a step. Assumes nothing.
use mathlib.Core.Bool.{Bool, true, false, cond}
use mathlib.Core.Logic.{◌⊎◌, inl, inr}
use mathlib.Core.Path.{◌≡◌, ◌∙◌}
use mathlib.Core.List.{List}
use Prim.Native.Nat.{ℕ, ◌<◌}
use native.Mathlib.Omega.{arith}
use lib.Dec.{eqb, ltb}
use lib.ListN.{length, get_or}
use borrow.Author.Tests.{eqb-true, eq-eqb, ltb-true, ltb-false}
use Rattle.definitions.specs.Lists.{member}
use Rattle.definitions.specs.Literal.{all_below, is_state, state_of}
use Rattle.definitions.specs.Image.{Operator, Task, initial_state}
use Rattle.definitions.specs.Step.{effects, result}
use Rattle.definitions.proofs.ListLaws.{decide, and_left, and_right, and_both, table_at, table_past, table_length}
use Rattle.definitions.proofs.LiteralLaws.{all_low, low_all}
use Rattle.definitions.proofs.StepLaws.{after_bit, result_length, value_at_lem, value_past}

-- N bytes, each 0 or 1
module _ (N : ℕ) (s : List ℕ) where
  pub state_long : is_state N s ≡ true → length s ≡ N
  unfolding is_state
  state_long h = eqb-true (length s) N (and_left (eqb (length s) N) (all_below 2 s) h)

  pub state_bits : is_state N s ≡ true → (a : ℕ) → get_or s a 0 < 2
  unfolding is_state
  state_bits h = low_all 2 s (omega arith) (and_right (eqb (length s) N) (all_below 2 s) h)

  pub state_of_lem : length s ≡ N → ((a : ℕ) → get_or s a 0 < 2) → is_state N s ≡ true
  unfolding is_state
  state_of_lem long bits = and_both (eq-eqb (length s) N long) (all_low 2 s bits)

-- after a step
pub result_bits : (s : List ℕ) (o : Operator) → ((a : ℕ) → get_or s a 0 < 2) → (a : ℕ) → get_or (result s o) a 0 < 2
result_bits s o bits a = go (decide (ltb a (length s)))
  where
    go : (ltb a (length s) ≡ true) ⊎ (ltb a (length s) ≡ false) → get_or (result s o) a 0 < 2
    go (inl h) = let z = value_at_lem s o a (ltb-true a (length s) h) in let b = after_bit s (effects s o) a (bits a) in omega arith
    go (inr h) = let z = value_past s o a (ltb-false a (length s) h) in omega arith

pub result_state : (N : ℕ) (s : List ℕ) (o : Operator) → is_state N s ≡ true → is_state N (result s o) ≡ true
result_state N s o h = state_of_lem N (result s o) (result_length s o ∙ state_long N s h) (result_bits s o (state_bits N s h))

-- initially
module _ (t : Task) where
  pub initial_long : length (initial_state t) ≡ t.atoms
  unfolding initial_state
  initial_long = table_length (state_of t.initial) t.atoms

  pub initial_bits : (a : ℕ) → get_or (initial_state t) a 0 < 2
  unfolding initial_state state_of
  initial_bits a = go (decide (ltb a t.atoms))
    where
      bit : (b : Bool) → cond b 1 0 < 2
      bit true = omega arith
      bit false = omega arith

      go : (ltb a t.atoms ≡ true) ⊎ (ltb a t.atoms ≡ false) → get_or (initial_state t) a 0 < 2
      go (inl h) =
          let z = table_at (state_of t.initial) t.atoms a (ltb-true a t.atoms h) in
          let b = bit (member a t.initial) in
          omega arith
      go (inr h) = let z = table_past (state_of t.initial) t.atoms a (ltb-false a t.atoms h) in omega arith

  pub initial_state_lem : is_state t.atoms (initial_state t) ≡ true
  initial_state_lem = state_of_lem t.atoms (initial_state t) initial_long initial_bits
