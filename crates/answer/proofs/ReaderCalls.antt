-- Laws of the calls that read an image and ask question 18 of a state: the questions in order, for every kind of image. Assumes nothing.
use mathlib.Core.Path.{◌≡◌, refl, sym, ap, ◌∙◌}
use mathlib.Core.List.{List}
use mathlib.Core.Bool.{Bool, true, false}
use Prim.Native.Nat.{ℕ, ◌+◌, ◌≤◌, ◌<◌}
use native.Mathlib.Omega.{arith}
use lib.Dec.{eqb, ltb}
use lib.ListN.{length, get_or, drop}
use borrow.Author.Tests.{lt-ltb, le-ltb, eq-eqb, ne_eqb}
use Rattle.definitions.specs.Answer.{Refusal, Answer, finding, refused, verdict, outcome, state_after, becomes, ask, ask_at, ◌>>=◌}
use Rattle.definitions.specs.StepLists.{run_from, refused_after, not_run}
use Rattle.definitions.proofs.StepLists.{run_on, run_stop, run_end}
use Rattle.definitions.proofs.AnswerLaws.{not_finding, same_finding, bind_of, ask_of}
use Rattle.std.specs.Result.{IsErrAnd, MatchResult}
use Rattle.std.proofs.Common.{Result, Ok, Err}
use Rattle.answer.specs.declared.Refusal as code
use Rattle.answer.specs.Answer.{refusal_at, placed, verdict_answer}
use Rattle.answer.specs.Reader.{Reader, asking, state_answer, step_call, goal_call, start_call, run_call}
use Rattle.answer.proofs.Laws.{refused_first, mapped_err}

-- ---- one question
module _ {A : Type 0} (q : ℕ) (b : Bool) (k : Unit {0} → Answer A) where
  pub question_no : b ≡ false → refused (refusal_at q 0 0) ≡ (ask q b >>= k)
  unfolding ask ask_at ◌>>=◌
  question_no h = rw h

  pub question_yes : b ≡ true → k tt ≡ (ask q b >>= k)
  unfolding ask ask_at ◌>>=◌
  question_yes h = rw h

-- ---- the outcome of a call, by its answer
module _ (s : List ℕ) (a : Answer (List ℕ)) where
  pub stays : (r : Refusal) → refused r ≡ a → outcome (refused r) s ≡ becomes s a
  unfolding becomes outcome verdict state_after
  stays r e = rw (← e)

  pub done : (s' : List ℕ) → finding s' ≡ a → outcome (finding tt) s' ≡ becomes s a
  unfolding becomes outcome verdict state_after
  done s' e = rw (← e)

-- ---- question 19, and the rest of a step
module _ (m i : ℕ) (s : List ℕ) (k : Unit {0} → Answer (List ℕ)) where
  pub operator_refused : m ≤ i → outcome (refused (refusal_at 19 0 0)) s ≡ becomes s (ask 19 (ltb i m) >>= k)
  operator_refused h = stays s (ask 19 (ltb i m) >>= k) (refusal_at 19 0 0) (question_no 19 (ltb i m) k (le-ltb i m h))

  pub operator_there_lem : i < m → becomes s (k tt) ≡ becomes s (ask 19 (ltb i m) >>= k)
  operator_there_lem h = ap (becomes s) (question_yes 19 (ltb i m) k (lt-ltb i m h))

-- ---- reading, question 18, and the rest
module _ {T B : Type 0} (a : Answer T) (right : T → Bool) (rest : T → Answer B) where
  pub image_refused : (r : Refusal) → refused r ≡ verdict a → refused r ≡ asking a right rest
  image_refused r e = refused_first a (λ t. ask 18 (right t) >>= λ _. rest t) r e

  module _ (t : T) (found : a ≡ finding t) where
    read_on : (ask 18 (right t) >>= λ _. rest t) ≡ asking a right rest
    unfolding ◌>>=◌
    read_on = rw found

    pub state_refused : right t ≡ false → refused (refusal_at 18 0 0) ≡ asking a right rest
    state_refused h = question_no 18 (right t) (λ _. rest t) h ∙ read_on

    pub rest_asked : right t ≡ true → rest t ≡ asking a right rest
    rest_asked h = question_yes 18 (right t) (λ _. rest t) h ∙ read_on

-- ---- the calls of a kind of image
module _ {T : Type 0} (R : Reader T) (w s : List ℕ) where
  pub first_refused : (r : Refusal) → refused r ≡ verdict (R.read w) → refused r ≡ state_answer R w s
  unfolding state_answer
  first_refused r e = image_refused (R.read w) (λ t. R.is_state t s) (λ _. finding tt) r e

  pub start_refused : (r : Refusal) → refused r ≡ verdict (R.read w) → outcome (refused r) s ≡ becomes s (start_call R w s)
  start_refused r e =
      stays s (start_call R w s) r (image_refused (R.read w) (λ t. eqb (length s) (R.size t)) (λ t. finding (R.initial t)) r e)

  -- where an image is read
  module _ (t : T) (found : R.read w ≡ finding t) where
    module _ (right : Bool) (er : right ≡ R.is_state t s) where
      pub first_asked : ask 18 right ≡ state_answer R w s
      unfolding state_answer ask ask_at ◌>>=◌
      first_asked =
          rw (found, er)
          (elim (R.is_state t s) as (λ b. ask_at 18 0 b ≡ (ask_at 18 0 b >>= λ _. finding tt)) [ true ↦ refl | false ↦ refl ])

    module _ (long : ℕ) (el : long ≡ R.size t) where
      pub start_long : (length s ≡ long → ⊥) → outcome (refused (refusal_at 18 0 0)) s ≡ becomes s (start_call R w s)
      start_long h =
          stays s (start_call R w s) (refusal_at 18 0 0)
          (state_refused (R.read w) (λ t. eqb (length s) (R.size t)) (λ t. finding (R.initial t)) t found
          (ne_eqb (length s) (R.size t) (λ e. h (e ∙ sym el))))

      pub start_done : length s ≡ long → (s' : List ℕ) → s' ≡ R.initial t → outcome (finding tt) s' ≡ becomes s (start_call R w s)
      start_done h s' e =
          done s (start_call R w s) s'
          (ap finding e
          ∙ rest_asked (R.read w) (λ t. eqb (length s) (R.size t)) (λ t. finding (R.initial t)) t found (eq-eqb (length s) (R.size t) (h ∙ el)))

  -- where the questions up to 18 are answered yes
  module _ (yes-18 : finding tt ≡ state_answer R w s) where
    both_found_lem : (t : T) × (R.read w ≡ finding t) × (R.is_state t s ≡ true)
    unfolding state_answer ask
    both_found_lem =
        let p = bind_of (R.read w) (λ t. ask 18 (R.is_state t s) >>= λ _. finding tt) tt (sym yes-18) in
        let q = bind_of (ask 18 (R.is_state p.0 s)) (λ _. finding tt) tt p.2 in
        (p.0, p.1, ask_of 18 0 (R.is_state p.0 s) q.0 q.1)

    pub image_fine : finding tt ≡ verdict (R.read w)
    unfolding verdict
    image_fine = sym (ap verdict both_found_lem.1)

    module _ (t : T) (found : R.read w ≡ finding t) where
      pub state_is : R.is_state t s ≡ true
      state_is = ap (λ (x : T). R.is_state x s) (same_finding t both_found_lem.0 (sym found ∙ both_found_lem.1)) ∙ both_found_lem.2

      pub step_rest : (i : ℕ) → becomes s (R.step t s i) ≡ becomes s (step_call R w s i)
      step_rest i = ap (becomes s) (rest_asked (R.read w) (λ t. R.is_state t s) (λ t. R.step t s i) t found state_is)

      pub run_rest : (is : List ℕ) → run_from (R.step t) s 0 is ≡ run_call R w s is
      unfolding not_run
      run_rest is =
          ap (not_run s) (rest_asked (R.read w) (λ t. R.is_state t s) (λ t. finding (run_from (R.step t) s 0 is)) t found state_is)

      pub goal_rest : (met : Bool) → met ≡ R.is_met t s → finding met ≡ goal_call R w s
      goal_rest met e = ap finding e ∙ rest_asked (R.read w) (λ t. R.is_state t s) (λ t. finding (R.is_met t s)) t found state_is

  -- where one of them is answered no
  module _ (r : Refusal) (no-18 : refused r ≡ state_answer R w s) where
    pub either_refused : {B : Type 0} (rest : T → Answer B) → refused r ≡ asking (R.read w) (λ t. R.is_state t s) rest
    unfolding state_answer ◌>>=◌ ask ask_at
    either_refused {B} rest = go (R.read w) no-18
      where
        at_18 : (t : T) (b : Bool) → refused r ≡ (ask 18 b >>= λ _. finding (tt {0})) → refused r ≡ (ask 18 b >>= λ _. rest t)
        at_18 t true e = absurd (not_finding e)
        at_18 t false e = ap refused (cc)

        go : (a : Answer T) → refused r ≡ asking a (λ t. R.is_state t s) (λ _. finding (tt {0})) → refused r ≡ asking a (λ t. R.is_state t s) rest
        go (finding t) e = at_18 t (R.is_state t s) e
        go (refused q) e = ap refused (cc)

    pub step_refused : (i : ℕ) → outcome (refused r) s ≡ becomes s (step_call R w s i)
    step_refused i = stays s (step_call R w s i) r (either_refused (λ t. R.step t s i))

    pub run_refused : (is : List ℕ) → outcome (refused r) s ≡ run_call R w s is
    unfolding not_run
    run_refused is = ap (not_run s) (either_refused (λ t. finding (run_from (R.step t) s 0 is)))

    pub goal_refused : refused r ≡ goal_call R w s
    goal_refused = either_refused (λ t. finding (R.is_met t s))

-- ---- list runs, by the outcome of each step
module _ (next : List ℕ → ℕ → Answer (List ℕ)) (list first : List ℕ) where
  -- the run of the whole list is that of what is left of it after k steps, in state s
  pub record Running (s : List ℕ) (k : ℕ) : Type 0 where
    pub within : k ≤ length list
    pub size : length s ≡ length first
    pub rest : run_from next first 0 list ≡ run_from next s k (drop k list)

  pub running_start : Running first 0
  running_start = record { within = omega arith; size = refl; rest = refl }

  module _ (s : List ℕ) (k : ℕ) (run : Running s k) where
    pub running_end : length list ≤ k → outcome (finding k) s ≡ run_from next first 0 list
    running_end h = run_end next s k list k h ∙ sym run.rest

    pub running_all : length list ≤ k → outcome (finding (length list)) s ≡ run_from next first 0 list
    running_all h =
        let z = run.within in
        let e : length list ≡ k = omega arith in
        ap (λ (n : ℕ). outcome (finding n) s) e ∙ running_end h

    -- step k, by operator i, leaves state s'
    module _ (i : ℕ) (s' : List ℕ) (inside : k < length list) (ei : i ≡ get_or list k 0) where
      pub running_on : length s' ≡ length s → outcome (finding tt) s' ≡ becomes s (next s i) → Running s' (k + 1)
      running_on el e =
          record {
            within = omega arith;
            size = el ∙ run.size;
            rest = run.rest ∙ run_on next s s' k k i list inside ei e;
          }

      pub running_stop : (r : Refusal) → outcome (refused r) s' ≡ becomes s (next s i) → outcome (refused (refused_after k r)) s' ≡ run_from next first 0 list
      running_stop r e = run_stop next s s' k k i list inside ei r e ∙ sym run.rest

      -- the steps taken are put into its refusal by `map_err`
      pub running_left :
          (r m : Result (Unit {0}) code.Refusal) (Q : code.Refusal → code.Refusal → Type 0)
          → MatchResult r (λ x. m ≡ Ok x) (λ f. IsErrAnd m (Q f)) → (g : code.Refusal) → m ≡ Err g
          → ((f : code.Refusal) → Q f g → placed g ≡ refused_after k (placed f)) → outcome (verdict_answer r) s' ≡ becomes s (next s i)
          → outcome (refused (placed g)) s' ≡ run_from next first 0 list
      running_left r m Q h g eg put e =
          let no = mapped_err r m Q h g eg in
          ap (λ (f : Refusal). outcome (refused f) s') (put no.0 no.2)
          ∙ running_stop (placed no.0) (ap (λ (x : Result (Unit {0}) code.Refusal). outcome (verdict_answer x) s') (sym no.1) ∙ e)
