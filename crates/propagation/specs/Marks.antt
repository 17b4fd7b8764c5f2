-- How marks stand for a set of literals, and what propagation promises of them. Only this crate opens these records. Assumes nothing.
use Rattle.std.specs.Prelude.{◌≡◌, Bool, true, false, List, ℕ, ◌*◌, ◌≤◌, ◌<◌, length}
use Rattle.definitions.specs.Literal.{most_atoms, all_below}
use Rattle.definitions.specs.Closure.{has, closure, contradictory}
use Rattle.definitions.specs.Marks.{mark_bytes, marked}
use Rattle.clause.specs.Rows.{ClausesRead}
use Rattle.propagation.specs.declared.Closing.{Closing}
use Rattle.propagation.specs.declared.Closing.TheVariants.{Consistent, Contradictory}

-- the marks stand for the set S of literals over so many atoms
pub record Marked (atoms : ℕ) (ms S : List ℕ) : Type 0 where
  pub room : mark_bytes atoms ≤ length ms
  pub each : (l : ℕ) → l < 2 * atoms → marked ms l ≡ has S l

-- the marks stand for a set that is not contradictory
pub record ConsistentMarks (atoms : ℕ) (ms : List ℕ) : Type 0 where
  pub set : List ℕ
  pub marked : Marked atoms ms set
  pub consistent : contradictory atoms set ≡ false

-- what is asked: clauses that are read, room for the marks of so many atoms, and literals of them
pub record Asked (atoms : ℕ) (ws ls ms : List ℕ) : Type 0 where
  pub few : atoms ≤ most_atoms
  pub room : mark_bytes atoms ≤ length ms
  pub rows : ClausesRead atoms ws
  pub below : all_below (2 * atoms) ls ≡ true

-- whether nothing more follows, as an answer
unfoldable pub closing_of : Bool → Closing
closing_of true = Consistent
closing_of false = Contradictory

-- the answer for the closure of C and ls, and the marks then
abbrev pub Closes : ℕ → List (List ℕ) → List ℕ → List ℕ → Closing → Type 0
Closes atoms C ls ms Consistent = (contradictory atoms (closure atoms C ls) ≡ false) × Marked atoms ms (closure atoms C ls)
Closes atoms C ls ms Contradictory = contradictory atoms (closure atoms C ls) ≡ true
