-- Lists of calls on whatever is lent: asks and commits ("Ask first, commit later"). Assumes nothing.
use Rattle.std.specs.Prelude.{List, [], ◌∷◌}
use Rattle.definitions.specs.Answer.{Answer, finding, refused, verdict}

-- what a call answers, and what is lent to it then holds
pub record OutcomeOf (S A : Type 0) : Type 0 where
  pub answer : Answer A
  pub lent : S

-- a call that was made: what was lent before it, the call, and what it answered
pub record Event (S C : Type 0) : Type 0 where
  pub before : S
  pub call : C
  pub answer : Answer (Unit {0})

module _ {S : Type 0} where
  unfoldable pub outcome_of_call : {A : Type 0} → Answer A → S → OutcomeOf S A
  outcome_of_call a s = record { answer = a; lent = s }

  -- what was lent, after the call: as the finding says, or, refused, as it was
  unfoldable pub lent_after : S → Answer S → S
  lent_after s (finding s') = s'
  lent_after s (refused r) = s

  -- the outcome of a call whose finding says what becomes of what was lent
  unfoldable pub call_becomes : S → Answer S → OutcomeOf S (Unit {0})
  call_becomes s a = outcome_of_call (verdict a) (lent_after s a)

-- S: what is lent; C: the calls; next s c answers call c on s, and its finding says what becomes of s
module _ {S C : Type 0} (next : S → C → Answer S) where
  -- what is lent after every call of the list, one after the other; a refused call leaves it as it was
  unfoldable pub after_calls : S → List C → S
  after_calls s [] = s
  after_calls s (c ∷ cs) = after_calls (lent_after s (next s c)) cs

  -- what the calls answer, in their order
  unfoldable pub answers_of : S → List C → List (Answer (Unit {0}))
  answers_of s [] = []
  answers_of s (c ∷ cs) = verdict (next s c) ∷ answers_of (lent_after s (next s c)) cs

  -- call c on s, as it was made
  unfoldable pub event_of : S → C → Event S C
  event_of s c = record { before = s; call = c; answer = verdict (next s c) }

  -- the calls made by the end of the list, the latest first; those of es were made before it
  unfoldable pub history_after : List (Event S C) → S → List C → List (Event S C)
  history_after es s [] = es
  history_after es s (c ∷ cs) = history_after (event_of s c ∷ es) (lent_after s (next s c)) cs

  -- the calls of a list, the latest first
  unfoldable pub history : S → List C → List (Event S C)
  history s cs = history_after [] s cs
