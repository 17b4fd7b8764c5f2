-- The words of the joined image part by part, and what writing them asks. Assumes nothing.
use Rattle.std.specs.Prelude.{◌≡◌, true, List, [], ◌∷◌, ◌++◌, map, ℕ, ◌+◌, ◌*◌, ◌≤◌, length}
use Rattle.definitions.specs.Literal.{most_atoms}
use Rattle.definitions.specs.Image.{Task, operator_size}
use Rattle.definitions.specs.Join.{shifted, joined, join_fits}
use Rattle.task.specs.Reads.{task_of, Reads}
use Rattle.writing.specs.Directory.{directory_of}
use Rattle.joining.specs.Behind.{operators_behind}

-- the lengths of the initial list and of the goal
unfoldable pub list_lengths : Task → Task → List ℕ
list_lengths t u = (length t.initial + length u.initial) ∷ (length t.goal + length u.goal) ∷ []

-- the lengths of the parts
unfoldable pub lengths_of : Task → Task → List ℕ
lengths_of t u = list_lengths t u ++ (map operator_size t.operators ++ map operator_size u.operators)

-- the numbers of atoms and operators, and the pairs
unfoldable pub header_of : Task → Task → List ℕ
header_of t u = directory_of (t.atoms + u.atoms) (length t.operators + length u.operators) (lengths_of t u)

-- the initial lists, then the goals
unfoldable pub lists_of : Task → Task → List ℕ
lists_of t u = (t.initial ++ shifted t.atoms u.initial) ++ (t.goal ++ shifted (2 * t.atoms) u.goal)

-- the operators, the first's behind no atom
unfoldable pub operators_of : Task → Task → List ℕ
operators_of t u = operators_behind 0 t.operators ++ operators_behind t.atoms u.operators

-- two images that read as tasks, and a target for which question 27 is answered yes
pub record Joinable (w v target : List ℕ) : Type 0 where
  pub first : Reads w
  pub second : Reads v
  pub fits : join_fits (joined (task_of w) (task_of v)) (length target) ≡ true

-- a part of the joined image that finds room in the target from `at` on
pub record PartGiven (w v part target : List ℕ) (at : ℕ) : Type 0 where
  pub first : Reads w
  pub second : Reads v
  pub few : (task_of w).atoms + (task_of v).atoms ≤ most_atoms
  pub room : at + length part ≤ length target
