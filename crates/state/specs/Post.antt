-- What the functions below the calls ask and answer. Assumes nothing.
use Rattle.std.specs.Prelude.{ℕ, ◌*◌, List, true, ◌≡◌, length, replicate}
use Rattle.definitions.specs.Answer.{Answer, finding, ask, ◌>>=◌}
use Rattle.definitions.specs.Literal.{all_true, is_state}
use Rattle.definitions.specs.Image.{Operator, Task, initial_state, read_task}
use Rattle.definitions.specs.Step.{applicable, result, step}
use Rattle.answer.specs.Reader.{Reader}
use Rattle.task.specs.Reads.{task_of, Reads}
use Rattle.task.specs.Walk.{block_parses}

-- task images: questions 1 to 7, their states (18) and steps (19 and 20)
abbrev pub task_reader : Reader Task
task_reader =
    record {
      read = read_task;
      is_state = λ t s. is_state t.atoms s;
      size = λ t. t.atoms;
      initial = initial_state;
      step = step;
      is_met = λ t s. all_true s t.goal;
    }

-- question 20, and the step, by the operator
unfoldable pub applied : List ℕ → Operator → Answer (List ℕ)
applied s o = do
  _ ← ask 20 (applicable s o)
  finding (result s o)

-- an image that reads as a task, and a state of its length
pub record Standing (w s : List ℕ) : Type 0 where
  pub reads : Reads w
  pub size : length s ≡ (task_of w).atoms

-- the block of an operator, and flags of the literals of a state that are all zero
pub record Applies (b s m : List ℕ) : Type 0 where
  pub parses : block_parses b ≡ true
  pub blank : m ≡ replicate (2 * length s) 0
