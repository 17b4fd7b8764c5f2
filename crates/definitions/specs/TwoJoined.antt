-- Document 02 §6 as one statement: two tasks and their join, read, accepted and run together. Assumes nothing.
use Rattle.std.specs.Prelude.{true, false, ◌&&◌, ◌≡◌, List, ◌++◌, ℕ, ◌+◌, ◌*◌, ◌≤◌, length}
use Rattle.definitions.specs.Answer.{Refusal, finding, refused, refuse, is_finding, ◌>>=◌, Outcome, outcome}
use Rattle.definitions.specs.Image.{Task, initial_state, read_task}
use Rattle.definitions.specs.StepLists.{walk, runs}
use Rattle.definitions.specs.Step.{step_task, goal_task, run_task}
use Rattle.definitions.specs.Clauses.{width, most_rows}
use Rattle.definitions.specs.Checker.{Accepted, check}
use Rattle.definitions.specs.Groups.{Written}
use Rattle.definitions.specs.Join.{joined, join_fits, join_call, union, union_words, first_part, second_part}
use Rattle.definitions.specs.Marks.{mark_bytes}

-- a list of numbers, whatever they are, from the initial states of the joined image z and of the two images
module _ (w v z : List ℕ) (t u : Task) (is : List ℕ) where
  -- the first's part of the list, and the second's
  abbrev pub own : List ℕ
  own = first_part (length t.operators) is

  abbrev pub other : List ℕ
  other = second_part (length t.operators) is

  -- the states after all steps
  abbrev pub end_joined : List ℕ
  end_joined = walk (step_task z) (initial_state (joined t u)) is

  abbrev pub end_first : List ℕ
  end_first = walk (step_task w) (initial_state t) own

  abbrev pub end_second : List ℕ
  end_second = walk (step_task v) (initial_state u) other

  -- the list runs
  abbrev pub run_joined : Outcome ℕ
  run_joined = run_task z (initial_state (joined t u)) is

  abbrev pub run_first : Outcome ℕ
  run_first = run_task w (initial_state t) own

  abbrev pub run_second : Outcome ℕ
  run_second = run_task v (initial_state u) other

  pub record RunsTogether : Type 0 where
    -- it runs exactly if the first's part runs in the first and the second's part in the second
    pub runs_both :
        runs (step_task z) (initial_state (joined t u)) is ≡ (runs (step_task w) (initial_state t) own && runs (step_task v) (initial_state u) other)
    -- the joined state is the two states one after the other (whichever steps were refused)
    pub state : end_joined ≡ end_first ++ end_second
    -- the goal is met exactly if both goals are
    pub goal : goal_task z end_joined ≡ (goal_task w end_first >>= λ a. goal_task v end_second >>= λ b. finding (a && b))
    -- as list runs: a finding exactly if both are, and then all steps are made and the states are the two one after the other
    pub run : is_finding run_joined.answer ≡ (is_finding run_first.answer && is_finding run_second.answer)
    pub left : is_finding run_joined.answer ≡ true → run_joined ≡ outcome (finding (length is)) (run_first.lent ++ run_second.lent)

-- images w and v, and what their join wrote
pub record TwoJoined (w v : List ℕ) (target : ℕ) (x : Written) : Type 0 where
  pub first : Task
  pub second : Task
  pub read_first : read_task w ≡ finding first
  pub read_second : read_task v ≡ finding second
  -- what was written fits, is as long as both images less 6, and reads as the joined task
  pub fits : x.count ≤ target
  pub count : x.count ≡ length x.words
  pub long : x.count + 6 ≡ length w + length v
  pub reads : read_task x.words ≡ finding (joined first second)
  -- a set accepted for each: the union, the second shifted, is accepted, if within question 8 and with marks as 13 asks
  pub accepted :
      (c d : List ℕ) (m₁ m₂ marks : ℕ) (a b : Accepted) → check w c m₁ ≡ finding a → check v d m₂ ≡ finding b
      → length (union_words first.atoms c d) ≤ width * most_rows
      → mark_bytes (first.atoms + second.atoms) ≤ marks
      → check x.words (union_words first.atoms c d) marks
      ≡ finding (record { task = joined first second; clauses = union first.atoms a.clauses b.clauses })
  -- every list of numbers
  pub lists : (is : List ℕ) → RunsTogether w v x.words first second is

-- of every two images and every target
pub record Joining : Type 0 where
  -- the first image's refusal comes first, then the second's, and 27 only where both were read
  pub first_refused : (w v : List ℕ) (target : ℕ) (r : Refusal) → read_task w ≡ refused r → join_call w v target ≡ refused r
  pub second_refused :
      (w v : List ℕ) (target : ℕ) (t : Task) (r : Refusal) → read_task w ≡ finding t → read_task v ≡ refused r → join_call w v target ≡ refused r
  pub passed :
      (w v : List ℕ) (target : ℕ) (t u : Task) → read_task w ≡ finding t → read_task v ≡ finding u → join_fits (joined t u) target ≡ false
      → join_call w v target ≡ refuse 27 0 0
  -- whatever is found
  pub joins : (w v : List ℕ) (target : ℕ) (x : Written) → join_call w v target ≡ finding x → TwoJoined w v target x
