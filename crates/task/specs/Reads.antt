-- An image that reads as a task, and its task. Assumes nothing.
use Rattle.std.specs.Prelude.{ℕ, List, [], ◌≡◌}
use Rattle.definitions.specs.Answer.{Answer, finding, refused}
use Rattle.definitions.specs.Image.{Task, read_task}

-- the task that was found
unfoldable pub task_in : Answer Task → Task
task_in (finding t) = t
task_in (refused r) = record { atoms = 0; initial = []; goal = []; operators = [] }

-- the task of an image that reads as one
unfoldable pub task_of : List ℕ → Task
task_of w = task_in (read_task w)

-- questions 1 to 7 are answered yes
pub record Reads (w : List ℕ) : Type 0 where
  pub found : read_task w ≡ finding (task_of w)
