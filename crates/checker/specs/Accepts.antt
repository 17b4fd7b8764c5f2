-- What the checker accepts, for the calls that ask its questions first. Assumes nothing.
use Rattle.std.specs.Prelude.{◌≡◌, List, ℕ}
use Rattle.definitions.specs.Answer.{finding}
use Rattle.definitions.specs.Checker.{check}
use Rattle.task.specs.Reads.{task_of, Reads}
use Rattle.clause.specs.Rows.{clauses_of, ClausesRead}

-- the task and the clauses that the checker accepts are those that are read
pub record Accepts (w c : List ℕ) (marks : ℕ) : Type 0 where
  pub reads : Reads w
  pub rows : ClausesRead (task_of w).atoms c
  pub found : check w c marks ≡ finding (record { task = task_of w; clauses = clauses_of c })
