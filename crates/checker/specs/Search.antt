-- The search for the lowest clause that is not kept, and under it the lowest operator, operator after operator. Assumes nothing.
use Rattle.std.specs.Prelude.{true, List, [], ◌≡◌, ℕ, ◌≤◌, ◌<◌, length, get_or}
use Rattle.std.proofs.Math.Option.{Option, none, some}
use Rattle.definitions.specs.Answer.{Answer, finding, refuse}
use Rattle.definitions.specs.Image.{Task}
use Rattle.definitions.specs.Step.{operator_at}
use Rattle.definitions.specs.Kept.{kept}
use Rattle.definitions.specs.Checker.{fails_under}
use Rattle.definitions.specs.Marks.{mark_bytes}
use Rattle.task.specs.Reads.{task_of}
use Rattle.clause.specs.Rows.{row_count}
use Rattle.judge.specs.Promise.{Read}

-- the first flag, or the end where there is none
pub record FirstFlag (flags : List ℕ) (i : ℕ) : Type 0 where
  pub inside : i ≤ length flags
  pub before : (k : ℕ) → k < i → get_or flags k 0 ≡ 1 → ⊥
  pub flagged : i < length flags → get_or flags i 0 ≡ 1

-- the operators below j are judged: they keep the clauses below `low`, and the clause there, if there is one, fails first under operator `under`
pub record Searched (t : Task) (C : List (List ℕ)) (j low under : ℕ) : Type 0 where
  pub inside : low ≤ length C
  pub keeps : (i k : ℕ) → i < low → k < j → kept t.atoms C (operator_at t k) (get_or C i []) ≡ true
  pub fails : low < length C → fails_under t C (get_or C low []) ≡ some under

-- question 10, by the place of the lowest clause that is false
unfoldable pub false_answer : Option ℕ → Answer (Unit {0})
false_answer none = finding tt
false_answer (some i) = refuse 10 i 0

-- what is asked to judge the first clauses under an operator, with so many marks, and a flag for each of them
pub record Judging (w c : List ℕ) (atoms operator marks flags : ℕ) : Type 0 where
  pub read : Read w c atoms
  pub operator_of_lem : operator < length (task_of w).operators
  pub marked : mark_bytes atoms ≤ marks
  pub inside : flags ≤ row_count c
