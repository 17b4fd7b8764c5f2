-- Asking first and committing later ("Ask first, commit later", 02 §8; question 28). Assumes nothing.
use Rattle.std.specs.Prelude.{Bool, not, ◌&&◌, List, [], ◌∷◌, ◌++◌, ℕ, suc, eqb}
use Rattle.definitions.specs.Answer.{Answer, finding, refused, ask, ◌>>=◌}
use Rattle.definitions.specs.CallLists.{Event}
use Rattle.definitions.specs.Literal.{is_state}
use Rattle.definitions.specs.Image.{Task, initial_state, read_task}
use Rattle.definitions.specs.Step.{step, step_task}

-- "a state with a commit count"
pub record CountedState : Type 0 where
  pub state : List ℕ
  pub count : ℕ

-- "a ticket with both numbers": commit count and operator
pub record Ticket : Type 0 where
  pub count : ℕ
  pub operator : ℕ

-- the highest count: there nothing more is committed
unfoldable pub last_count : ℕ
last_count = 65535

-- ask: the step's questions, 1-7 and 18-20; the finding is the ticket
unfoldable pub ask_task : List ℕ → CountedState → ℕ → Answer Ticket
ask_task w x i = do
  _ ← step_task w x.state i
  finding (record { count = x.count; operator = i })

-- question 28: the ticket's count is the state's, and is not the last
unfoldable pub ticket_valid : ℕ → ℕ → Bool
ticket_valid given count = eqb given count && not (eqb given last_count)

-- questions 28, 19 and 20; the step is done and counted
unfoldable pub commit : Task → CountedState → Ticket → Answer CountedState
commit t x k = do
  _ ← ask 28 (ticket_valid k.count x.count)
  s ← step t x.state k.operator
  finding (record { state = s; count = suc x.count })

-- commit: questions 1-7 and 18, then 28, 19 and 20; the finding is what state and count become
unfoldable pub commit_task : List ℕ → CountedState → Ticket → Answer CountedState
commit_task w x k = do
  t ← read_task w
  _ ← ask 18 (is_state t.atoms x.state)
  commit t x k

-- ---- lists of asks and commits

-- a call of a list: an ask for an operator, or a commit of a ticket, whichever it is
pub data TicketCall : Type 0 where
  asks : ℕ → TicketCall
  commits : Ticket → TicketCall

-- what a call answers, as what state and count become: an ask leaves them
unfoldable pub ticket_call : List ℕ → CountedState → TicketCall → Answer CountedState
ticket_call w x (asks i) = ask_task w x i >>= λ _. finding x
ticket_call w x (commits k) = commit_task w x k

-- the operator of a commit that was not refused
unfoldable pub committed_by : TicketCall → Answer (Unit {0}) → List ℕ
committed_by (asks i) a = []
committed_by (commits k) (finding u) = k.operator ∷ []
committed_by (commits k) (refused r) = []

-- "the operators whose commits were not refused, in order"; the calls made are given the latest first
unfoldable pub committed : List (Event CountedState TicketCall) → List ℕ
committed [] = []
committed (e ∷ es) = committed es ++ committed_by e.call e.answer

-- "the initial state with count 0"
unfoldable pub initial_counted : Task → CountedState
initial_counted t = record { state = initial_state t; count = 0 }
