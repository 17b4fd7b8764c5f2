-- Groups whose none is omitted, by the places of the atoms. Assumes nothing.
use Rattle.std.specs.Prelude.{◌≡◌, Bool, true, ◌&&◌, List, ℕ, ◌≤◌, ◌<◌, eqb, length, get_or}
use Rattle.definitions.specs.Lists.{all}
use Rattle.definitions.specs.Literal.{positive, all_below}
use Rattle.definitions.specs.Clauses.{clause_of, row_at}
use Rattle.clause.specs.Rows.{row_count}

-- the literal is positive, and its atom lies in group v
unfoldable pub in_group : List ℕ → ℕ → ℕ → Bool
in_group places v l = positive l && eqb (get_or places l 0) v

-- all literals are
unfoldable pub lies_in : List ℕ → ℕ → List ℕ → Bool
lies_in places v f = all (in_group places v) f

-- clauses of one literal or more, whose atoms have places
pub record Within (w places : List ℕ) : Type 0 where
  pub some_literal : (i : ℕ) → i < row_count w → 1 ≤ length (clause_of (row_at w i))
  pub low : (i : ℕ) → i < row_count w → all_below (length places) (clause_of (row_at w i)) ≡ true
