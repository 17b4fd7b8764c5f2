-- What every call keeps holds after every list of calls. Assumes nothing.
use Rattle.std.proofs.Common.{List, [], ◌∷◌}
use Rattle.definitions.specs.Answer.{Answer}
use Rattle.definitions.specs.CallLists.{Event, lent_after, after_calls, event_of, history_after, history}

-- of the calls made and of what is lent
module _
    {S C : Type 0} (next : S → C → Answer S) (P : List (Event S C) → S → Type 0)
    (kept : (es : List (Event S C)) (s : S) (c : C) → P es s → P (event_of next s c ∷ es) (lent_after s (next s c))) where
  after_keeps : (cs : List C) (es : List (Event S C)) (s : S) → P es s → P (history_after next es s cs) (after_calls next s cs)
  unfolding history_after after_calls
  after_keeps [] es s h = h
  after_keeps (c ∷ cs) es s h = after_keeps cs (event_of next s c ∷ es) (lent_after s (next s c)) (kept es s c h)

  pub history_keeps : (cs : List C) (s : S) → P [] s → P (history next s cs) (after_calls next s cs)
  unfolding history
  history_keeps cs s h = after_keeps cs [] s h
