-- How many clauses of 1 to n literals are possible over N atoms (document 02 §5). Assumes nothing.
use Rattle.std.specs.Prelude.{◌≡◌, ℕ, zero, suc, ◌+◌, ◌-◌, ◌*◌, ◌/◌, ◌^◌, length}
use mathlib.Core.List.{List, Memᴰ}
use Rattle.definitions.specs.Lists.{Distinct}
use Rattle.definitions.specs.Clauses.{GoodClause}

-- how many ways there are to choose k of N atoms
unfoldable pub choose : ℕ → ℕ → ℕ
choose N zero = 1
choose zero (suc k) = 0
choose (suc N) (suc k) = choose N k + choose N (suc k)

-- the clauses of 1 to n literals: for k literals, k of the atoms, and one of the two literals of each
unfoldable pub possible_clauses : ℕ → ℕ → ℕ
possible_clauses N zero = 0
possible_clauses N (suc n) = possible_clauses N n + 2 ^ suc n * choose N (suc n)

-- so many there are: a list of exactly these clauses, none of them twice
pub record Counted (N n : ℕ) : Type 0 where
  pub list : List (List ℕ)
  pub only : (f : List ℕ) → Memᴰ f list → GoodClause N n f
  pub every : (f : List ℕ) → GoodClause N n f → Memᴰ f list
  pub once : Distinct list
  pub count : length list ≡ possible_clauses N n

-- the closed forms; `three_whole` says that the division is exact. Over too few atoms N - 1 or N - 2 is 0, and so is the product
pub record ClosedForms (N : ℕ) : Type 0 where
  pub one : possible_clauses N 1 ≡ 2 * N
  pub two : possible_clauses N 2 ≡ 2 * (N * N)
  pub three : possible_clauses N 3 ≡ 2 * (N * N) + 4 * N * (N - 1) * (N - 2) / 3
  pub three_whole : 3 * possible_clauses N 3 ≡ 3 * (2 * (N * N)) + 4 * N * (N - 1) * (N - 2)
