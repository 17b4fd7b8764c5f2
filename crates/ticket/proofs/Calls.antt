-- Laws of asks and commits: the questions in order. Assumes nothing.
use mathlib.Core.Path.{◌≡◌, sym}
use mathlib.Core.List.{List}
use mathlib.Core.Bool.{true, false}
use Prim.Native.Nat.{ℕ, suc, ◌+◌}
use native.Mathlib.Numerals.{add-one}
use Rattle.definitions.specs.Answer.{Refusal, finding, refused, verdict, outcome, becomes, ◌>>=◌}
use Rattle.definitions.specs.CallLists.{outcome_of_call, call_becomes}
use Rattle.definitions.specs.Image.{Task, read_task}
use Rattle.definitions.specs.Step.{step, step_task}
use Rattle.definitions.specs.Ticket.{Ticket, ask_task, ticket_valid, commit, commit_task}
use Rattle.definitions.proofs.AnswerLaws.{step_found, step_refused}
use Rattle.answer.specs.Answer.{refusal_at}
use Rattle.answer.specs.Reader.{state_answer}
use Rattle.answer.proofs.Laws.{verdict_finding, refused_first}
use Rattle.answer.proofs.ReaderCalls.{question_no, question_yes}
use Rattle.state.specs.Post.{task_reader}
use Rattle.ticket.specs.Answer.{counted, ticket_with}
use Rattle.ticket.proofs.Outcomes.{stays, done, rest_becomes, rest_stays}

-- ---- an ask, by the questions of the step
module _ (w s : List ℕ) (n i : ℕ) where
  pub ask_refused : (r : Refusal) → refused r ≡ verdict (step_task w s i) → refused r ≡ ask_task w (counted s n) i
  unfolding ask_task
  ask_refused r e = refused_first (step_task w s i) (λ _. finding (ticket_with n i)) r e

  pub ask_given : finding tt ≡ verdict (step_task w s i) → finding (ticket_with n i) ≡ ask_task w (counted s n) i
  unfolding ask_task ◌>>=◌
  ask_given e = rw (verdict_finding (step_task w s i) tt (sym e)).1

-- ---- a commit in a task's state
module _ (t : Task) (s : List ℕ) (n : ℕ) (k : Ticket) where
  pub no_28 :
      ticket_valid k.count n ≡ false
      → outcome_of_call (refused (refusal_at 28 0 0)) (counted s n) ≡ call_becomes (counted s n) (commit t (counted s n) k)
  unfolding commit
  no_28 h = stays (counted s n) _ (refusal_at 28 0 0) (question_no 28 (ticket_valid k.count n) _ h)

  module _ (valid : ticket_valid k.count n ≡ true) where
    steps : (step t s k.operator >>= λ s'. finding (counted s' (suc n))) ≡ commit t (counted s n) k
    unfolding commit
    steps = question_yes 28 (ticket_valid k.count n) _ valid

    -- by what the step left
    module _ (s' : List ℕ) where
      pub not_committed :
          (r : Refusal) → outcome (refused r) s' ≡ becomes s (step t s k.operator)
          → outcome_of_call (refused r) (counted s' n) ≡ call_becomes (counted s n) (commit t (counted s n) k)
      unfolding ◌>>=◌
      not_committed r e =
          let d = step_refused (step t s k.operator) s s' r e in
          rw d.1 (stays (counted s n) _ r (rw d.0 at steps))

      pub committed :
          outcome (finding tt) s' ≡ becomes s (step t s k.operator)
          → outcome_of_call (finding tt) (counted s' (n + 1)) ≡ call_becomes (counted s n) (commit t (counted s n) k)
      unfolding ◌>>=◌
      committed e = rw (add-one n) (done (counted s n) _ (counted s' (suc n)) (rw (step_found (step t s k.operator) s s' e) at steps))

-- ---- a commit, by the questions up to 18
module _ (w s : List ℕ) (n : ℕ) (k : Ticket) where
  pub commit_refused :
      (r : Refusal) → refused r ≡ state_answer task_reader w s
      → outcome_of_call (refused r) (counted s n) ≡ call_becomes (counted s n) (commit_task w (counted s n) k)
  unfolding commit_task
  commit_refused r e = rest_stays task_reader w s (counted s n) (λ t. commit t (counted s n) k) r e

  pub commit_rest :
      finding tt ≡ state_answer task_reader w s → (t : Task) → read_task w ≡ finding t
      → call_becomes (counted s n) (commit t (counted s n) k) ≡ call_becomes (counted s n) (commit_task w (counted s n) k)
  unfolding commit_task
  commit_rest e t found = rest_becomes task_reader w s (counted s n) (λ t. commit t (counted s n) k) e t found
