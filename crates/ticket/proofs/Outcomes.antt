-- Laws of what a call answers and leaves, whatever is lent to it. Assumes nothing.
use mathlib.Core.Path.{◌≡◌, ap, ◌∙◌}
use mathlib.Core.List.{List}
use Rattle.definitions.specs.Answer.{Refusal, Answer, finding, refused, verdict}
use Prim.Native.Nat.{ℕ}
use Rattle.definitions.specs.CallLists.{OutcomeOf, outcome_of_call, lent_after, call_becomes}
use Rattle.answer.specs.Reader.{Reader, asking, state_answer}
use Rattle.answer.proofs.ReaderCalls.{either_refused}
use Rattle.state.proofs.Asked.{all_asked}

-- an outcome by an equal answer
pub by_answer : {S A : Type 0} (a b : Answer A) (s : S) (r : OutcomeOf S A) → a ≡ b → outcome_of_call b s ≡ r → outcome_of_call a s ≡ r
by_answer a b s r e h = ap (λ (x : Answer _). outcome_of_call x s) e ∙ h

-- ---- the outcome of a call, by its answer
module _ {S : Type 0} (s : S) (a : Answer S) where
  pub stays : (r : Refusal) → refused r ≡ a → outcome_of_call (refused r) s ≡ call_becomes s a
  unfolding call_becomes outcome_of_call verdict lent_after
  stays r e = rw (← e)

  pub done : (s' : S) → finding s' ≡ a → outcome_of_call (finding tt) s' ≡ call_becomes s a
  unfolding call_becomes outcome_of_call verdict lent_after
  done s' e = rw (← e)

-- ---- the parts of an outcome: what the call answers, and what is lent then holds
module _ {S : Type 0} (a : Answer (Unit {0})) (s s' : S) (b : Answer S) (e : outcome_of_call a s' ≡ call_becomes s b) where
  pub answered : a ≡ verdict b
  unfolding call_becomes outcome_of_call
  answered = ap (λ (x : OutcomeOf S (Unit {0})). x.answer) e

  pub left : s' ≡ lent_after s b
  unfolding call_becomes outcome_of_call
  left = ap (λ (x : OutcomeOf S (Unit {0})). x.lent) e

-- ---- of a call that lends x besides an image and a state
module _ {T X : Type 0} (R : Reader T) (w s : List ℕ) (x : X) (rest : T → Answer X) where
  pub rest_becomes :
      finding tt ≡ state_answer R w s → (t : T) → R.read w ≡ finding t
      → call_becomes x (rest t) ≡ call_becomes x (asking (R.read w) (λ t. R.is_state t s) rest)
  rest_becomes yes-18 t found = ap (call_becomes x) (all_asked R w s yes-18 t found rest)

  pub rest_stays :
      (r : Refusal) → refused r ≡ state_answer R w s → outcome_of_call (refused r) x ≡ call_becomes x (asking (R.read w) (λ t. R.is_state t s) rest)
  rest_stays r no-18 = stays x (asking (R.read w) (λ t. R.is_state t s) rest) r (either_refused R w s r no-18 rest)
