-- Document 02 §8 as one statement: every list of asks and commits, and every ticket. Assumes nothing.
use Rattle.std.specs.Prelude.{◌≡◌, List, [], map, ℕ, suc, ◌≤◌, length}
use Rattle.definitions.specs.Answer.{finding, refuse, outcome}
use Rattle.definitions.specs.StepLists.{walk}
use Rattle.definitions.specs.CallLists.{after_calls, history}
use Rattle.definitions.specs.Image.{Task, initial_state, read_task}
use Rattle.definitions.specs.Step.{step_task, run_task}
use Rattle.definitions.specs.Ticket.{CountedState, Ticket, last_count, ask_task, commit_task, TicketCall, asks, ticket_call, committed, initial_counted}

-- image w reads as task t: state and count x are those of the operators is, from the initial state with count 0
pub record OfOperators (w : List ℕ) (t : Task) (is : List ℕ) (x : CountedState) : Type 0 where
  -- "the state is that of the operators": after their steps, and after a list run, which refuses none of them
  pub state : x.state ≡ walk (step_task w) (initial_state t) is
  pub run : run_task w (initial_state t) is ≡ outcome (finding (length is)) x.state
  -- "and the count is their number"; it never passes the last one
  pub count : x.count ≡ length is
  pub within : x.count ≤ last_count

-- ticket k, which asking for operator i at x gave, is committed at y
pub record CommittedLater (w : List ℕ) (x : CountedState) (i : ℕ) (k : Ticket) (y : CountedState) : Type 0 where
  -- "is refused only at count 65,535": at any other the step of that operator is done and counted
  pub done :
      (x.count ≡ last_count → ⊥)
      → (s : List ℕ) × (step_task w x.state i ≡ finding s) × (commit_task w y k ≡ finding (record { state = s; count = suc x.count }))
  -- and there with 28
  pub last : x.count ≡ last_count → commit_task w y k ≡ refuse 28 0 0

pub record TicketLists : Type 0 where
  -- "For every list of asks and commits from the initial state with count 0", of whichever tickets, also old and invented ones
  pub lists :
      (w : List ℕ) (t : Task) → read_task w ≡ finding t → (cs : List TicketCall)
      → OfOperators w t (committed (history (ticket_call w) (initial_counted t) cs)) (after_calls (ticket_call w) (initial_counted t) cs)
  -- "A ticket's commit, with only asks in between", from any state and count
  pub later :
      (w : List ℕ) (x : CountedState) (i : ℕ) (k : Ticket) → ask_task w x i ≡ finding k → (is : List ℕ)
      → CommittedLater w x i k (after_calls (ticket_call w) x (map asks is))
  -- and a ticket is old as soon as something was committed after the ask: then it is refused with 28
  pub old :
      (w : List ℕ) (x : CountedState) (i : ℕ) (k : Ticket) → ask_task w x i ≡ finding k → (cs : List TicketCall)
      → (committed (history (ticket_call w) x cs) ≡ [] → ⊥) → commit_task w (after_calls (ticket_call w) x cs) k ≡ refuse 28 0 0
