-- Marks of the atoms that are mutex with every other. Assumes nothing.
use Rattle.std.specs.Prelude.{◌≡◌, List, [], ◌∷◌, ℕ, ◌+◌, ◌*◌, ◌≤◌, ◌<◌, length, get_or}
use Rattle.definitions.specs.Literal.{most_atoms}
use Rattle.definitions.specs.Closure.{bit}
use Rattle.definitions.specs.Groups.{has_clause}
use Rattle.clause.specs.Rows.{clauses_of, RightRows}

-- a mark for each atom: the set has the clause that the atom is false
pub record Alone (C : List (List ℕ)) (alone : List ℕ) : Type 0 where
  pub mark : (a : ℕ) → a < length alone → get_or alone a 0 ≡ bit (has_clause C ((2 * a + 1) ∷ []))

-- rows to look clauses up in, with the marks of their atoms
pub record Known (w alone : List ℕ) : Type 0 where
  pub rows : RightRows most_atoms w
  pub marks : Alone (clauses_of w) alone
  pub few : length alone ≤ most_atoms
