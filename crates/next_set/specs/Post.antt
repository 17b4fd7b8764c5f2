-- What the functions of this crate ask and promise of one another. Assumes nothing.
use Rattle.std.specs.Prelude.{◌≡◌, Bool, true, false, ◌&&◌, ◌||◌, List, map, ℕ, ◌+◌, ◌*◌, ◌≤◌, ◌<◌, eqb, length, take}
use Rattle.definitions.specs.Lists.{any, keep, below}
use Rattle.definitions.specs.Literal.{most_atoms, most_literals, all_below}
use Rattle.definitions.specs.Closure.{has, bit, closure, contradictory}
use Rattle.definitions.specs.Image.{Operator, Task}
use Rattle.definitions.specs.Clauses.{width, most_rows}
use Rattle.definitions.specs.Step.{operator_at}
use Rattle.definitions.specs.Synthesis.{guarantees, set_at}
use Rattle.definitions.specs.Marks.{mark_bytes}
use Rattle.clause.specs.Rows.{row_count, clauses_of, RightRows}
use Rattle.task.specs.Reads.{task_of}
use Rattle.judge.specs.Judging.{flag_more}
use Rattle.judge.specs.Promise.{Read}
use Rattle.next_set.specs.Build.{fails_below, some_fails, words_without}

-- the image and the clauses are read, and there is room to judge the clauses
pub record ReadWithRoom (w c : List ℕ) (atoms : ℕ) (marks fails : List ℕ) : Type 0 where
  pub read : Read w c atoms
  pub room : mark_bytes atoms ≤ length marks
  pub flagged : length fails ≡ row_count c

-- the literals that have their flag are the first k words
pub record Listed (flags list : List ℕ) (k : ℕ) : Type 0 where
  pub few : k ≤ length flags
  pub words : take k list ≡ keep (has flags) (below (length flags))

-- the literals that the operator guarantees, where the closure of C and its precondition is not contradictory, are the first k words
pub record ListedGuarantees (atoms : ℕ) (C : List (List ℕ)) (o : Operator) (list : List ℕ) (k : ℕ) : Type 0 where
  pub few : k ≤ length list
  pub low : all_below most_literals (take k list) ≡ true
  pub words : (t : Task) → t.atoms ≡ atoms → contradictory atoms (closure atoms C o.precondition) ≡ false → take k list ≡ guarantees t C o

-- what is asked to weaken the flagged clauses of k literals
pub record Weakening (c flags list : List ℕ) (k : ℕ) : Type 0 where
  pub rows : RightRows most_atoms c
  pub flagged : length flags ≡ row_count c
  pub low : all_below most_literals list ≡ true
  pub short : k < width

-- the rows without a flag are the first k rows
pub record Copied (c flags w : List ℕ) (k : ℕ) : Type 0 where
  pub few : k ≤ row_count c
  pub words : take (width * k) w ≡ words_without c flags
  pub size : length (words_without c flags) ≡ width * k

-- the clauses are a set of the synthesis over clauses of at most `most` literals, and within the rows
pub record Round (w c : List ℕ) (atoms most rows : ℕ) : Type 0 where
  pub read : Read w c atoms
  pub before : ℕ
  pub set : clauses_of c ≡ set_at (task_of w) most before
  pub some_literal : 1 ≤ most
  pub narrow : most ≤ width
  pub size : row_count c ≤ rows
  pub few : rows ≤ most_rows

-- the clauses that pass the test p have their flag in `to`, and the numbers of their literals, counted from `at` on, have theirs in
-- `due` where it has a place: these flags are added to those that were there, and no others
pub record FlagsAdded (p : List ℕ → Bool) (C : List (List ℕ)) (at : ℕ) (to to' due due' : List ℕ) : Type 0 where
  pub flags : to' ≡ flag_more p C to
  pub noted : (i : ℕ) → i < length due → has due' i ≡ (any (λ f. p f && eqb (at + length f) i) C || has due i)

-- where `due` has a place for an operator and a number of literals, it has its flag there exactly if a clause of so many literals fails under it
pub record FailuresNoted (t : Task) (C : List (List ℕ)) (due : List ℕ) : Type 0 where
  pub flag :
      (i k : ℕ) → i < length t.operators → 1 ≤ k → k ≤ width → width * i + k < length due
      → has due (width * i + k) ≡ some_fails t C k (operator_at t i)

-- the clauses are tested, and there is room to judge them again
pub record TestedWithRoom (w c : List ℕ) (atoms : ℕ) (due marks fails : List ℕ) : Type 0 where
  pub given : ReadWithRoom w c atoms marks fails
  pub noted : FailuresNoted (task_of w) (clauses_of c) due

-- what is asked to weaken the failing clauses of k literals
pub record WeakensAt (w c : List ℕ) (atoms k : ℕ) (due marks fails : List ℕ) : Type 0 where
  pub tested : TestedWithRoom w c atoms due marks fails
  pub some_literal : 1 ≤ k
  pub short : k < width

-- what is asked to weaken the failing clauses of less than `most` literals
pub record WeakensBelow (w c : List ℕ) (atoms most : ℕ) (due marks fails : List ℕ) : Type 0 where
  pub tested : TestedWithRoom w c atoms due marks fails
  pub some_literal : 1 ≤ most
  pub narrow : most ≤ width

-- what is asked to build the next set of a tested one
pub record TestedRound (w c : List ℕ) (atoms most rows : ℕ) (failing due marks fails work : List ℕ) : Type 0 where
  pub round : Round w c atoms most rows
  pub flags : failing ≡ map (λ f. bit (fails_below (task_of w) (clauses_of c) (length (task_of w).operators) f)) (clauses_of c)
  pub noted : FailuresNoted (task_of w) (clauses_of c) due
  pub room : mark_bytes atoms ≤ length marks
  pub flagged : length fails ≡ row_count c
  pub fits : width * rows ≤ length work
