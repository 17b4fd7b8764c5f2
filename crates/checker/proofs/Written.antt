-- What is written where the checker accepts, by the calls that ask its questions first. Assumes nothing.
use mathlib.Core.Path.{◌≡◌}
use mathlib.Core.List.{List}
use Prim.Native.Nat.{ℕ}
use Rattle.definitions.specs.Answer.{Answer, ◌>>=◌}
use Rattle.definitions.specs.Checker.{Accepted, check}
use Rattle.definitions.specs.Groups.{Written, written}
use Rattle.task.specs.Reads.{task_of}
use Rattle.clause.specs.Rows.{clauses_of}
use Rattle.answer.proofs.Laws.{written_found}
use Rattle.checker.specs.Accepts.{Accepts}

module _ (w c : List ℕ) (marks : ℕ) (k : Accepted → Answer Written) (old : List ℕ) where
  pub call_accepted :
      Accepts w c marks → written old (k (record { task = task_of w; clauses = clauses_of c })) ≡ written old (check w c marks >>= k)
  call_accepted a = written_found (check w c marks) k old (record { task = task_of w; clauses = clauses_of c }) a.found
