-- A task and its re-encoding by an inductive set that holds initially go in step ("Lists of steps"). Assumes nothing.
use Rattle.std.specs.Prelude.{true, ◌≡◌, List, ℕ, length, take}
use Rattle.definitions.specs.Lists.{all}
use Rattle.definitions.specs.Answer.{finding}
use Rattle.definitions.specs.StepLists.{walk, verdicts, visited, steps_before, run_answer, Along}
use Rattle.definitions.specs.Literal.{holds_in, all_true}
use Rattle.definitions.specs.Image.{Task, initial_state, read_task}
use Rattle.definitions.specs.Step.{step_task, goal_task, start_task, run_task}
use Rattle.definitions.specs.Invariant.{Invariant}
use Rattle.definitions.specs.Encoding.{encode, encoded_image}
use Rattle.definitions.specs.FdrStep.{step_fdr, goal_fdr, start_fdr, run_fdr}
use Rattle.definitions.specs.Coding.{to_atoms_call, from_atoms_call}

-- the initial values: the finite-domain state that a re-encoded task begins in
abbrev pub initial_values : Task → List (List ℕ) → List ℕ
initial_values t C = (encode t C).initial

-- how a list is given: as steps, or as a list run
pub data Way : Type 0 where
  by_steps : Way
  by_run : Way

-- the state that a list ends in from the initial one, of image w, which reads as task t
unfoldable pub task_end : List ℕ → Task → Way → List ℕ → List ℕ
task_end w t by_steps is = walk (step_task w) (initial_state t) is
task_end w t by_run is = (run_task w (initial_state t) is).lent

-- and of the re-encoding of t by set C
unfoldable pub fdr_end : Task → List (List ℕ) → Way → List ℕ → List ℕ
fdr_end t C by_steps is = walk (step_fdr (encoded_image t C)) (initial_values t C) is
fdr_end t C by_run is = (run_fdr (encoded_image t C) (initial_values t C) is).lent

-- image w, which reads as task t, and a set C; the re-encoded image, and the initial states of the two images
module _ (w : List ℕ) (t : Task) (C : List (List ℕ)) where
  abbrev encoded : List ℕ
  encoded = encoded_image t C

  abbrev s₀ : List ℕ
  s₀ = initial_state t

  abbrev v₀ : List ℕ
  v₀ = initial_values t C

  -- a state of the task and a finite-domain state, by the calls on the images
  pub record SameState (s v : List ℕ) : Type 0 where
    -- every clause of the set holds
    pub invariant : all (holds_in s) C ≡ true
    -- both goal tests say whether all literals of the goal are true
    pub goal : goal_task w s ≡ finding (all_true s t.goal)
    pub goal_fdr_lem : goal_fdr encoded v ≡ finding (all_true s t.goal)
    -- N bytes, V values
    pub bytes : length s ≡ t.atoms
    pub vars : length v ≡ length v₀
    -- the finite-domain state is that of the task's state (question 23 does not refuse), and coded back it gives that state
    pub from : from_atoms_call encoded s (length v) ≡ finding v
    pub to : to_atoms_call encoded v t.atoms ≡ finding s

  -- a list of numbers, whatever they are, from the initial states
  pub record InStep (is : List ℕ) : Type 0 where
    -- every step answers alike
    pub answers : verdicts (step_task w) s₀ is ≡ verdicts (step_fdr encoded) v₀ is
    -- at the start and after each step the states are the same
    pub states : Along SameState (visited (step_task w) s₀ is) (visited (step_fdr encoded) v₀ is)
    -- the list run gives in both a finding of its steps if no step is refused, else the refusal of the first that is
    pub run : (run_task w s₀ is).answer ≡ run_answer 0 (verdicts (step_task w) s₀ is)
    pub run_fdr_lem : (run_fdr encoded v₀ is).answer ≡ run_answer 0 (verdicts (step_task w) s₀ is)
    -- and leaves in each the state after the steps before the first refused one
    pub kept : (run_task w s₀ is).lent ≡ walk (step_task w) s₀ (take (steps_before (step_task w) s₀ is) is)
    pub kept_fdr : (run_fdr encoded v₀ is).lent ≡ walk (step_fdr encoded) v₀ (take (steps_before (step_task w) s₀ is) is)

  pub record Agreement : Type 0 where
    -- setting to the initial state, from any state of the right length
    pub start_task_lem : (s : List ℕ) → length s ≡ t.atoms → start_task w s ≡ finding s₀
    pub start_fdr_lem : (v : List ℕ) → length v ≡ length v₀ → start_fdr encoded v ≡ finding v₀
    -- every list of numbers
    pub lists : (is : List ℕ) → InStep is
    -- two lists end in equal states exactly when they end in equal finite-domain states
    pub two_lists :
        (p q : Way) (is js : List ℕ)
        → (task_end w t p is ≡ task_end w t q js → fdr_end t C p is ≡ fdr_end t C q js)
        × (fdr_end t C p is ≡ fdr_end t C q js → task_end w t p is ≡ task_end w t q js)

-- every image that reads as a task, with every inductive set that holds initially
abbrev pub InvariantsAgree : Type 0
InvariantsAgree = (w : List ℕ) (t : Task) (C : List (List ℕ)) → read_task w ≡ finding t → Invariant t C → Agreement w t C
