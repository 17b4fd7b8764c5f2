-- The calls on an image that reads as a task, from a state: lists, list runs and goal tests are those of the task. Assumes nothing.
use mathlib.Core.Bool.{true}
use mathlib.Core.Path.{◌≡◌, refl, ◌∙◌, ap, subst}
use mathlib.Core.List.{List}
use Prim.Native.Nat.{ℕ, ◌<◌}
use native.Mathlib.Omega.{arith}
use lib.Dec.{ltb}
use lib.ListN.{length}
use borrow.Author.Tests.{ltb-true}
use Rattle.definitions.specs.Lists.{all}
use Rattle.definitions.specs.Answer.{Answer, finding, refused, is_finding, Outcome, outcome, ask, ask_at, ◌>>=◌}
use Rattle.definitions.specs.StepLists.{walk, runs, run_from, not_run}
use Rattle.definitions.specs.Literal.{is_state, all_true}
use Rattle.definitions.specs.Image.{Task, initial_state, read_task}
use Rattle.definitions.specs.Step.{applicable, result, operator_at, step, step_task, goal_task, run_task}
use Rattle.definitions.proofs.AnswerLaws.{same_finding, bind_of, ask_of}
use Rattle.definitions.proofs.StateLaws.{result_state, initial_state_lem}
use Rattle.definitions.proofs.StepLists.{Alike, both_found_lem, both_refused, walk_alike, verdicts_alike, run_runs, run_all}

-- what a step that is found says: there is its operator, and what is found is its result
pub record Stepped (t : Task) (s : List ℕ) (i : ℕ) (x : List ℕ) : Type 0 where
  pub there : i < length t.operators
  pub is_result : result s (operator_at t i) ≡ x

pub step_says : (t : Task) (s : List ℕ) (i : ℕ) (x : List ℕ) → step t s i ≡ finding x → Stepped t s i x
unfolding step ask
step_says t s i x e =
    let o = operator_at t i in
    let is_there = ltb i (length t.operators) in
    let p = bind_of (ask_at 19 0 is_there) (λ _. ask_at 20 0 (applicable s o) >>= λ _. finding (result s o)) x e in
    let q = bind_of (ask_at 20 0 (applicable s o)) (λ _. finding (result s o)) x p.2 in
    record {
      there = ltb-true i (length t.operators) (ask_of 19 0 is_there p.0 p.1);
      is_result = same_finding (result s o) x q.2;
    }

-- a step from a state finds a state
pub step_state :
    (t : Task) (s : List ℕ) (i : ℕ) (x : List ℕ) → is_state t.atoms s ≡ true → step t s i ≡ finding x
    → is_state t.atoms x ≡ true
step_state t s i x h e =
    subst (λ (z : List ℕ). is_state t.atoms z ≡ true) (step_says t s i x e).is_result (result_state t.atoms s (operator_at t i) h)

-- the same state
Same : ℕ → List ℕ → List ℕ → Type 0
Same N s v = (s ≡ v) × (is_state N s ≡ true)

same_alike : (N : ℕ) (a : Answer (List ℕ)) → ((x : List ℕ) → a ≡ finding x → is_state N x ≡ true) → Alike (Same N) a a
unfolding Same
same_alike N (finding x) h = both_found_lem (refl, h x refl)
same_alike N (refused r) h = both_refused r

module _ (w : List ℕ) (t : Task) (read : read_task w ≡ finding t) where
  step_call_lem : (s : List ℕ) (i : ℕ) → is_state t.atoms s ≡ true → step_task w s i ≡ step t s i
  unfolding step_task ask ask_at ◌>>=◌
  step_call_lem s i h = rw (read, h)

  calls_alike : (s v : List ℕ) → Same t.atoms s v → (i : ℕ) → Alike (Same t.atoms) (step_task w s i) (step t v i)
  unfolding Same
  calls_alike s v x i =
      rw (step_call_lem s i x.1, ← x.0) (same_alike t.atoms (step t s i) (λ y e. step_state t s i y x.1 e))

  -- a list of steps from the initial state
  walk_same : (is : List ℕ) → Same t.atoms (walk (step_task w) (initial_state t) is) (walk (step t) (initial_state t) is)
  unfolding Same
  walk_same is = walk_alike (Same t.atoms) (step_task w) (step t) calls_alike is (initial_state t) (initial_state t) (refl, initial_state_lem t)

  pub walk_call : (is : List ℕ) → walk (step_task w) (initial_state t) is ≡ walk (step t) (initial_state t) is
  unfolding Same
  walk_call is = (walk_same is).0

  pub walk_state : (is : List ℕ) → is_state t.atoms (walk (step_task w) (initial_state t) is) ≡ true
  unfolding Same
  walk_state is = (walk_same is).1

  pub runs_call : (is : List ℕ) → runs (step_task w) (initial_state t) is ≡ runs (step t) (initial_state t) is
  unfolding runs Same
  runs_call is =
      ap (all is_finding)
      (verdicts_alike (Same t.atoms) (step_task w) (step t) calls_alike is (initial_state t) (initial_state t) (refl, initial_state_lem t))

  pub goal_call_lem : (s : List ℕ) → is_state t.atoms s ≡ true → goal_task w s ≡ finding (all_true s t.goal)
  unfolding goal_task ask ask_at ◌>>=◌
  goal_call_lem s h = rw (read, h)

  -- a list run from the initial state, by its steps
  run_call_lem : (is : List ℕ) → run_task w (initial_state t) is ≡ run_from (step t) (initial_state t) 0 is
  unfolding run_task not_run ask ask_at ◌>>=◌
  run_call_lem is = rw (read, initial_state_lem t)

  pub run_found : (is : List ℕ) → is_finding (run_task w (initial_state t) is).answer ≡ runs (step t) (initial_state t) is
  run_found is = ap (λ (x : Outcome ℕ). is_finding x.answer) (run_call_lem is) ∙ run_runs (step t) is (initial_state t) 0

  pub run_made :
      (is : List ℕ) → runs (step t) (initial_state t) is ≡ true
      → run_task w (initial_state t) is ≡ outcome (finding (length is)) (walk (step t) (initial_state t) is)
  run_made is h =
      run_call_lem is
      ∙ run_all (step t) is (initial_state t) 0 h
      ∙ ap (λ n. outcome (finding n) (walk (step t) (initial_state t) is)) (omega arith)
