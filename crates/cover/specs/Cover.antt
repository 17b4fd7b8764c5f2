-- The groups of all atoms, as the walks leave them. Assumes nothing.
use Rattle.std.specs.Prelude.{◌≡◌, cond, List, [], ℕ, ◌*◌, ◌≤◌, ◌<◌, length, get_or, replicate}
use Rattle.definitions.specs.Literal.{most_atoms}
use Rattle.definitions.specs.Groups.{groups_below, none_omitted}
use Rattle.cover.specs.Join.{Grouped}

-- room for the places of N atoms, with no atom in a group and none a value of each
pub record Room (N : ℕ) (ps ss ns : List ℕ) : Type 0 where
  pub few : N ≤ most_atoms
  pub places : length ps ≡ 2 * N
  pub sizes : ss ≡ replicate most_atoms 0
  pub none : ns ≡ replicate most_atoms 1

-- the n groups of N atoms: places of the atoms, size of each group, 1 if none is a value of it else 0
pub record Covered (N : ℕ) (C : List (List ℕ)) (ps ss ns : List ℕ) (n : ℕ) : Type 0 where
  pub grouped : Grouped C N ps ss n
  pub none : (v : ℕ) → v < n → get_or ns v 0 ≡ cond (none_omitted C (get_or (groups_below C N) v [])) 0 1
  pub flags : (v : ℕ) → get_or ns v 0 ≤ 1
  pub low : (i : ℕ) → get_or ps i 0 < most_atoms
  pub places : length ps ≡ 2 * N
  pub sizes : length ss ≡ most_atoms
  pub nones : length ns ≡ most_atoms
  pub few : N ≤ most_atoms
