-- The domains of groups, by their sizes and whether none is a value of them. Assumes nothing.
use Rattle.std.specs.Prelude.{List, [], ◌∷◌, ◌++◌, ℕ, ◌+◌, ◌≤◌, length, get_or}
use Rattle.definitions.specs.Lists.{each, below}
use Rattle.definitions.specs.Literal.{most_atoms}

-- the words of the domain of group v
unfoldable pub domain_by : List ℕ → List ℕ → ℕ → List ℕ
domain_by sizes none v = (get_or sizes v 0 + get_or none v 0) ∷ get_or none v 0 ∷ []

-- the words of a cover by n groups: the domains part, then the atoms part
unfoldable pub cover_words : List ℕ → List ℕ → List ℕ → ℕ → List ℕ
cover_words ps ss ns n = each (domain_by ss ns) (below n) ++ ps

-- sizes of groups, and whether none is a value of them, for k groups
pub record Domained (ss ns : List ℕ) (k : ℕ) : Type 0 where
  pub sizes : k ≤ length ss
  pub nones : k ≤ length ns
  pub small : (v : ℕ) → get_or ss v 0 ≤ most_atoms
  pub flags : (v : ℕ) → get_or ns v 0 ≤ 1
