-- Laws of the calls: a task's states, and questions 19 and 20. Assumes nothing.
use mathlib.Core.Path.{◌≡◌, sym, ap, ◌∙◌}
use mathlib.Core.List.{List}
use mathlib.Core.Bool.{true, false}
use Prim.Native.Nat.{ℕ, ◌*◌, ◌≤◌, ◌<◌}
use lib.ListN.{length, replicate}
use lib.Dec.{eqb}
use borrow.Author.Tests.{eqb-true}
use Rattle.definitions.specs.Answer.{finding, refused, outcome, becomes}
use Rattle.definitions.specs.Literal.{all_true, all_below, is_state}
use Rattle.definitions.specs.Image.{Operator, Task}
use Rattle.definitions.specs.Step.{applicable, result, operator_at, step}
use Rattle.definitions.proofs.ListLaws.{and_left}
use Rattle.answer.specs.Answer.{refusal_at}
use Rattle.answer.specs.Reader.{state_answer}
use Rattle.answer.proofs.ReaderCalls.{question_no, question_yes, stays, done, operator_refused, operator_there_lem, image_fine, state_is}
use Rattle.task.specs.Reads.{task_of}
use Rattle.task.specs.Walk.{operator_in}
use Rattle.task.specs.Post.{BlockGiven}
use Rattle.task.proofs.Questions.{reads}
use Rattle.state.specs.Flags.{flag_fired, changed, unflagged}
use Rattle.state.specs.Post.{task_reader, applied, Standing, Applies}
use Rattle.state.proofs.Flags.{flags_result, flags_gone}

-- questions 1 to 7 and 18 are answered yes
pub standing : (w s : List ℕ) → finding tt ≡ state_answer task_reader w s → Standing w s
unfolding is_state
standing w s yes-18 =
    let rd = reads w (image_fine task_reader w s yes-18) in
    record {
      reads = rd;
      size =
          eqb-true (length s) (task_of w).atoms
          (and_left (eqb (length s) (task_of w).atoms) (all_below 2 s) (state_is task_reader w s yes-18 (task_of w) rd.found));
    }

-- ---- question 19
module _ (t : Task) (s : List ℕ) (i : ℕ) where
  pub step_19 : length t.operators ≤ i → outcome (refused (refusal_at 19 0 0)) s ≡ becomes s (step t s i)
  unfolding step
  step_19 h = operator_refused (length t.operators) i s _ h

  pub step_there : i < length t.operators → becomes s (applied s (operator_at t i)) ≡ becomes s (step t s i)
  unfolding step applied
  step_there h = operator_there_lem (length t.operators) i s _ h

module _ (w s m : List ℕ) (i : ℕ) (st : Standing w s) (em : m ≡ replicate (2 * (task_of w).atoms) 0) where
  pub applies : (b : List ℕ) → BlockGiven b (task_of w) i → Applies b s m
  applies b g = record { parses = g.parses; blank = em ∙ ap (λ (n : ℕ). replicate (2 * n) 0) (sym st.size) }

-- ---- question 20, by the operator
module _ (s : List ℕ) (o : Operator) where
  pub applied-20 : all_true s o.precondition ≡ false → outcome (refused (refusal_at 20 0 0)) s ≡ becomes s (applied s o)
  unfolding applied applicable
  applied-20 h = stays s (applied s o) (refusal_at 20 0 0) (question_no 20 (applicable s o) _ h)

  pub applied_done :
      all_true s o.precondition ≡ true → (s' : List ℕ) → s' ≡ result s o
      → outcome (finding tt) s' ≡ becomes s (applied s o)
  unfolding applied applicable
  applied_done h s' e = done s (applied s o) s' (ap finding e ∙ question_yes 20 (applicable s o) _ h)

-- ---- the effects, by the flags of the rows that fire
module _ (b s m : List ℕ) (a : Applies b s m) (m' : List ℕ) (em : m' ≡ flag_fired s (operator_in b).rows m) where
  flagged : m' ≡ flag_fired s (operator_in b).rows (replicate (2 * length s) 0)
  flagged = em ∙ ap (flag_fired s (operator_in b).rows) a.blank

  -- the deletes are made true, and then the adds
  module _
      (m₁ s₁ : List ℕ) (deletes : (s₁ ≡ changed false (operator_in b).rows m' s) × (m₁ ≡ unflagged false (operator_in b).rows m'))
      (m₂ s₂ : List ℕ) (adds : (s₂ ≡ changed true (operator_in b).rows m₁ s₁) × (m₂ ≡ unflagged true (operator_in b).rows m₁)) where
    pub rows_applied : s₂ ≡ result s (operator_in b)
    rows_applied = adds.0 ∙ rw (deletes.0, deletes.1, flagged) (flags_result s (operator_in b))

    pub flags_cleared : m₂ ≡ m
    flags_cleared = adds.1 ∙ rw (deletes.1, flagged) (flags_gone s (operator_in b) (2 * length s)) ∙ sym a.blank
