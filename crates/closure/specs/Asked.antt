-- What the closure call asks. Assumes nothing.
use Rattle.std.specs.Prelude.{List, ℕ, ◌≤◌, ◌<◌, length}
use Rattle.definitions.specs.Marks.{mark_bytes}
use Rattle.clause.specs.Rows.{ClausesRead}
use Rattle.task.specs.Reads.{task_of, Reads}

-- questions 1 to 9, 19 and 13 are answered yes, for operator i and so many bytes of marks
pub record Asks (w c : List ℕ) (i marks : ℕ) : Type 0 where
  pub task : Reads w
  pub clauses : ClausesRead (task_of w).atoms c
  pub operator : i < length (task_of w).operators
  pub marked : mark_bytes (task_of w).atoms ≤ marks
