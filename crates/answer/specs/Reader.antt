-- Calls that read an image and ask question 18 of a state, whatever kind of image it is. Assumes nothing.
use Rattle.std.specs.Prelude.{ℕ, List, Bool, eqb, length}
use Rattle.definitions.specs.Answer.{Answer, finding, Outcome, ask, ◌>>=◌}
use Rattle.definitions.specs.StepLists.{run_from, not_run}

-- a kind of image: what reading it answers, and of what is read the test of a state, the length of its states, its initial state,
-- its steps (questions from 19 on) and the test of its goal
pub record Reader (T : Type 0) : Type 0 where
  pub read : List ℕ → Answer T
  pub is_state : T → List ℕ → Bool
  pub size : T → ℕ
  pub initial : T → List ℕ
  pub step : T → List ℕ → ℕ → Answer (List ℕ)
  pub is_met : T → List ℕ → Bool

-- what reading answers, then question 18, then the rest
abbrev pub asking : {T B : Type 0} → Answer T → (T → Bool) → (T → Answer B) → Answer B
asking a right rest = a >>= λ t. ask 18 (right t) >>= λ _. rest t

module _ {T : Type 0} (R : Reader T) (w s : List ℕ) where
  -- the questions of the image, and 18
  unfoldable pub state_answer : Answer (Unit {0})
  state_answer = asking (R.read w) (λ t. R.is_state t s) (λ _. finding tt)

  abbrev pub step_call : ℕ → Answer (List ℕ)
  step_call i = asking (R.read w) (λ t. R.is_state t s) (λ t. R.step t s i)

  abbrev pub goal_call : Answer Bool
  goal_call = asking (R.read w) (λ t. R.is_state t s) (λ t. finding (R.is_met t s))

  abbrev pub start_call : Answer (List ℕ)
  start_call = asking (R.read w) (λ t. eqb (length s) (R.size t)) (λ t. finding (R.initial t))

  abbrev pub run_call : List ℕ → Outcome ℕ
  run_call is = not_run s (asking (R.read w) (λ t. R.is_state t s) (λ t. finding (run_from (R.step t) s 0 is)))
