-- The closed forms of the number of possible clauses. Assumes nothing.
use mathlib.Core.Path.{◌≡◌, refl}
use Prim.Native.Nat.{ℕ, zero, suc, ◌+◌, ◌-◌, ◌*◌, ◌/◌}
use native.Mathlib.Omega.{arith}
use Rattle.definitions.specs.PossibleClauses.{choose, possible_clauses, ClosedForms}

-- ---- numbers of choices, in forms without differences
choose_one : (N : ℕ) → choose N 1 ≡ N
unfolding choose
choose_one zero = refl
choose_one (suc N) = let h = choose_one N in omega arith

choose_two : (N : ℕ) → 2 * choose (suc N) 2 ≡ (N + 1) * N
unfolding choose
choose_two zero = refl
choose_two (suc N) =
    let h = choose_two N in
    let a : choose (suc (suc N)) 2 ≡ choose (suc N) 1 + choose (suc N) 2 = refl in
    let b = choose_one (suc N) in
    omega arith

choose_three : (N : ℕ) → 6 * choose (suc (suc N)) 3 ≡ (N + 2) * (N + 1) * N
unfolding choose
choose_three zero = refl
choose_three (suc N) =
    let h = choose_three N in
    let a : choose (suc (suc (suc N))) 3 ≡ choose (suc (suc N)) 2 + choose (suc (suc N)) 3 = refl in
    let b = choose_two (suc N) in
    omega arith

-- the same for every N
two_of : (N : ℕ) → 2 * choose N 2 + N ≡ N * N
unfolding choose
two_of zero = refl
two_of (suc N) = let h = choose_two N in omega arith

three_of : (N : ℕ) → 6 * choose N 3 ≡ N * (N - 1) * (N - 2)
unfolding choose
three_of zero = refl
three_of (suc zero) = refl
three_of (suc (suc N)) = rw (less_one, less_two) (let h = choose_three N in omega arith)
  where
    less_one : suc (suc N) - 1 ≡ N + 1
    less_one = omega arith

    less_two : suc (suc N) - 2 ≡ N
    less_two = omega arith

-- where the quotient is exact
quotient : (p s q : ℕ) → 3 * p ≡ 3 * s + q → p ≡ s + q / 3
quotient p s q h = omega arith

add-three : (p c s N a b : ℕ) → p ≡ s → 6 * c ≡ N * a * b → 3 * (p + 8 * c) ≡ 3 * s + 4 * N * a * b
add-three p c s N a b h k = omega arith

one_form : (N : ℕ) → possible_clauses N 1 ≡ 2 * N
unfolding possible_clauses
one_form N = let h = choose_one N in omega arith

two_form : (N : ℕ) → possible_clauses N 2 ≡ 2 * (N * N)
unfolding possible_clauses
two_form N =
    let h = one_form N in
    let k = two_of N in
    omega arith

three_form : (N : ℕ) → 3 * possible_clauses N 3 ≡ 3 * (2 * (N * N)) + 4 * N * (N - 1) * (N - 2)
unfolding possible_clauses
three_form N = add-three (possible_clauses N 2) (choose N 3) (2 * (N * N)) N (N - 1) (N - 2) (two_form N) (three_of N)

pub closed_forms : (N : ℕ) → ClosedForms N
closed_forms N =
    record {
      one = one_form N;
      two = two_form N;
      three = quotient (possible_clauses N 3) (2 * (N * N)) (4 * N * (N - 1) * (N - 2)) (three_form N);
      three_whole = three_form N;
    }
