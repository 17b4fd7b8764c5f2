-- The questions of a call that changes nothing: those up to 18 and then the rest, and questions 19 and 20. Assumes nothing.
use mathlib.Core.Path.{◌≡◌, sym, ap, ◌∙◌}
use mathlib.Core.List.{List}
use mathlib.Core.Bool.{Bool}
use Prim.Native.Nat.{ℕ, ◌≤◌, ◌<◌}
use lib.Dec.{ltb}
use lib.ListN.{length}
use borrow.Author.Tests.{lt-ltb, le-ltb}
use Rattle.definitions.specs.Answer.{Refusal, Answer, finding, refused, verdict, ask, ◌>>=◌}
use Rattle.definitions.specs.Literal.{all_true}
use Rattle.definitions.specs.Image.{Task}
use Rattle.definitions.specs.Step.{applicable, result, operator_at, step}
use Rattle.answer.specs.Answer.{refusal_at}
use Rattle.answer.specs.Reader.{Reader, asking, state_answer, step_call}
use Rattle.answer.proofs.Laws.{verdict_bind, asked_verdict}
use Rattle.answer.proofs.ReaderCalls.{question_no, question_yes, rest_asked, state_is, either_refused}

-- ---- the questions up to 18, and the rest, for every kind of image
module _ {T : Type 0} (R : Reader T) (w s : List ℕ) where
  -- where they are answered yes
  module _ (yes-18 : finding tt ≡ state_answer R w s) (t : T) (found : R.read w ≡ finding t) where
    pub all_asked : {B : Type 0} (rest : T → Answer B) → rest t ≡ asking (R.read w) (λ t. R.is_state t s) rest
    all_asked rest = rest_asked (R.read w) (λ t. R.is_state t s) rest t found (state_is R w s yes-18 t found)

    pub check_rest : (i : ℕ) → verdict (R.step t s i) ≡ verdict (step_call R w s i)
    check_rest i = ap verdict (all_asked (λ t. R.step t s i))

  -- where one of them is answered no
  module _ (r : Refusal) (no-18 : refused r ≡ state_answer R w s) where
    pub check_refused : (i : ℕ) → refused r ≡ verdict (step_call R w s i)
    unfolding verdict
    check_refused i = ap verdict (either_refused R w s r no-18 (λ t. R.step t s i))

-- ---- questions 19 and 20
module _ (t : Task) (s : List ℕ) (i : ℕ) where
  pub no_19 : length t.operators ≤ i → refused (refusal_at 19 0 0) ≡ verdict (step t s i)
  unfolding step verdict
  no_19 h = ap verdict (question_no 19 (ltb i (length t.operators)) _ (le-ltb i (length t.operators) h))

  module _ (there : i < length t.operators) where
    asks_20 : step t s i ≡ (ask 20 (applicable s (operator_at t i)) >>= λ _. finding (result s (operator_at t i)))
    unfolding step
    asks_20 = sym (question_yes 19 (ltb i (length t.operators)) _ (lt-ltb i (length t.operators) there))

    pub asked_20 : (b : Bool) → b ≡ all_true s (operator_at t i).precondition → ask 20 b ≡ verdict (step t s i)
    unfolding applicable ask
    asked_20 b e =
        let p = all_true s (operator_at t i).precondition in
        ap (ask 20) e
        ∙ sym (ap verdict asks_20 ∙ verdict_bind (ask 20 p) (λ _. result s (operator_at t i)) ∙ asked_verdict 20 0 p)
