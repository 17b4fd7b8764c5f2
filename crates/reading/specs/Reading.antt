-- A task image and a clause set that are read: questions 1 to 9. Assumes nothing.
use Rattle.std.specs.Prelude.{◌≡◌, List, ℕ, Result, Ok, Err}
use Rattle.definitions.specs.Answer.{Answer, refused, verdict, ◌>>=◌}
use Rattle.definitions.specs.Image.{read_task}
use Rattle.definitions.specs.Clauses.{read_clauses}
use Rattle.answer.specs.Answer.{placed}
use Rattle.answer.specs.declared.Refusal as code
use Rattle.task.specs.Reads.{task_of, Reads}
use Rattle.clause.specs.Rows.{ClausesRead}

-- questions 1 to 9, as every call that lends an image and clauses asks them first
unfoldable pub read_both : List ℕ → List ℕ → Answer (List (List ℕ))
read_both w c = read_task w >>= λ t. read_clauses t.atoms c

-- they are answered yes
pub record BothRead (w c : List ℕ) : Type 0 where
  pub task : Reads w
  pub clauses : ClausesRead (task_of w).atoms c

-- what the answer to them says
abbrev pub BothAnswer : List ℕ → List ℕ → Result (Unit {0}) code.Refusal → Type 0
BothAnswer w c (Ok u) = BothRead w c
BothAnswer w c (Err f) = refused (placed f) ≡ verdict (read_both w c)
