-- What is compared for demand 3, all by the calls: image w and re-encoded image e, clause words c. Assumes nothing.
use Rattle.std.specs.Prelude.{Bool, true, ◌&&◌, List, [], ◌∷◌, ◌≡◌, ℕ, ◌≤◌, eqb, length, take, replicate}
use Rattle.definitions.specs.Lists.{all}
use Rattle.definitions.specs.Answer.{Answer, finding, refused, becomes, ◌>>=◌}
use Rattle.definitions.specs.Literal.{most_atoms, holds_in}
use Rattle.definitions.specs.StepLists.{walk, steps_before}
use Rattle.definitions.specs.Step.{step_task, goal_task, start_task, run_task}
use Rattle.definitions.specs.FdrStep.{step_fdr, goal_fdr, start_fdr, run_fdr}
use Rattle.definitions.specs.Coding.{to_atoms_call, from_atoms_call}
use Rattle.definitions.specs.Checker.{Accepted, check}
use Rattle.definitions.specs.Encoding.{encoded_image}
use Rattle.answer.specs.Answer.{test_answer}
use Rattle.std.specs.Prelude.{Result}
use Rattle.answer.specs.declared.Refusal.{Refusal}
use Rattle.task.specs.Reads.{task_of, Reads}
use Rattle.clause.specs.Rows.{clauses_of}
use Rattle.fdr_image.specs.Reads.{fdr_of, ReadsFdr}
use Rattle.agreement.specs.Same.{same_answer, both_found, same_unit, same_bool, same_list, is_found}

-- the numbers before the first whose step the task refuses
unfoldable pub steps_taken : List ℕ → List ℕ → List ℕ → List ℕ
steps_taken w s is = take (steps_before (step_task w) s is) is

-- s and v are what the single steps for these numbers leave, from the initial states
unfoldable pub left_by_steps : List ℕ → List ℕ → List ℕ → List ℕ → List ℕ → Bool
left_by_steps w e is s v =
    both_found
    (λ s' v'. same_list (walk (step_task w) s' (steps_taken w s' is)) s && same_list (walk (step_fdr e) v' (steps_taken w s' is)) v)
    (start_task w s)
    (start_fdr e v)

module _ (w e c : List ℕ) where
  -- a state of the task and a finite-domain state: every clause holds, the goal tests say the same, each is the other's code
  unfoldable pub same_states : List ℕ → List ℕ → Bool
  same_states s v =
      all (holds_in s) (clauses_of c)
      && (both_found same_bool (goal_task w s) (goal_fdr e v)
      && (is_found (from_atoms_call e s (length v)) v && is_found (to_atoms_call e v (length s)) s))

  -- a step for every number of the list, one after the other: the answers are the same, and the states after it
  unfoldable pub steps_same : List ℕ → List ℕ → List ℕ → Bool
  steps_same [] s v = true
  steps_same (i ∷ is) s v =
      let x = becomes s (step_task w s i) in
      let y = becomes v (step_fdr e v i) in
      let r = steps_same is x.lent y.lent in
      same_answer same_unit x.answer y.answer && (same_states x.lent y.lent && r)

  -- the list runs: the answers are the same, and the states that they leave, which are those of the single steps
  unfoldable pub runs_same : List ℕ → List ℕ → List ℕ → Bool
  runs_same is s v =
      let x = run_task w s is in
      let y = run_fdr e v is in
      same_answer eqb x.answer y.answer && (same_states x.lent y.lent && left_by_steps w e is x.lent y.lent)

  -- the initial states are the same, and steps for the numbers of the list keep them so
  unfoldable pub steps_from_start : List ℕ → List ℕ → List ℕ → Bool
  steps_from_start is s v = both_found (λ s' v'. same_states s' v' && steps_same is s' v') (start_task w s) (start_fdr e v)

  -- the list runs, again from the initial states
  unfoldable pub runs_from_start : List ℕ → List ℕ → List ℕ → Bool
  runs_from_start is s v = both_found (runs_same is) (start_task w s) (start_fdr e v)

  unfoldable pub list_same : List ℕ → List ℕ → List ℕ → Bool
  list_same is s v = steps_from_start is s v && runs_from_start is s v

-- the comparison of two images, with states of as many atoms and variables as they have
unfoldable pub images_same : List ℕ → List ℕ → List ℕ → List ℕ → Bool
images_same w e c is = list_same w e c is (replicate (task_of w).atoms 0) (replicate (length (fdr_of e).domains) 0)

-- the comparison, after the checker
unfoldable pub comparison : List ℕ → List ℕ → ℕ → List ℕ → Answer Bool
comparison w c marks is = check w c marks >>= λ a. finding (images_same w (encoded_image a.task a.clauses) c is)

-- demand 3: all is the same if the set is accepted
unfoldable pub demanded : Answer Accepted → Answer Bool
demanded (finding a) = finding true
demanded (refused r) = refused r

-- what `agree` promises: its answer is that of the comparison, and it is what demand 3 demands
pub record Agreed (w c : List ℕ) (marks : ℕ) (is : List ℕ) (r : Result Bool Refusal) : Type 0 where
  pub compared : test_answer r ≡ comparison w c marks is
  pub demand : test_answer r ≡ demanded (check w c marks)

-- the steps before the first refused one were made in both states
pub record Walked (w e is s v s' v' : List ℕ) : Type 0 where
  pub state : s' ≡ walk (step_task w) s (steps_taken w s is)
  pub values : v' ≡ walk (step_fdr e) v (steps_taken w s is)

-- states that have room in the local arrays
pub record Small (s v : List ℕ) : Type 0 where
  pub atoms : length s ≤ most_atoms
  pub values : length v ≤ most_atoms

-- other states of the same lengths
pub record SameLengths (s v s' v' : List ℕ) : Type 0 where
  pub atoms : length s' ≡ length s
  pub values : length v' ≡ length v

-- images that are read
pub record Images (w e : List ℕ) : Type 0 where
  pub task : Reads w
  pub fdr : ReadsFdr e
