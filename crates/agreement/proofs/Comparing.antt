-- Laws of the comparison, for the walks of the code. Assumes nothing.
use mathlib.Core.Bool.{Bool, true, false, ◌&&◌}
use mathlib.Core.List.{List}
use mathlib.Core.Path.{◌≡◌, refl, sym, ◌∙◌, ap}
use Prim.Native.Nat.{ℕ, ◌+◌, ◌≤◌, ◌<◌}
use native.Mathlib.Omega.{arith}
use lib.Dec.{eqb}
use lib.ListN.{length, get_or, drop, drop_of_length-le, replicate, length-replicate}
use Rattle.definitions.specs.Answer.{Refusal, finding, refused, verdict, becomes, ask, ◌>>=◌}
use Rattle.definitions.specs.Image.{initial_state, read_task}
use Rattle.definitions.specs.Step.{step_task, start_task, run_task}
use Rattle.definitions.specs.FdrImage.{read_fdr}
use Rattle.definitions.specs.FdrStep.{step_fdr, start_fdr, run_fdr}
use Rattle.definitions.specs.Checker.{check}
use Rattle.definitions.proofs.Walks.{left_here}
use Rattle.answer.proofs.Laws.{verdict_refused, refused_first}
use Rattle.task.specs.Reads.{task_of}
use Rattle.fdr_image.specs.Reads.{fdr_of}
use Rattle.agreement.specs.Same.{same_answer, both_found, same_unit, Both}
use Rattle.agreement.specs.Compared.{left_by_steps, same_states, steps_same, runs_same, steps_from_start, runs_from_start, list_same}
use Rattle.agreement.specs.Compared.{images_same, comparison, demanded, SameLengths}
use Rattle.agreement.proofs.SameLaws.{not_found, are_found}

module _ (w e c s v : List ℕ) where
  -- both states are set: s and v become s' and v'
  module _ (is : List ℕ) {s' v' : List ℕ} {fine : Bool}
      (made : Both (both_found same_unit) (becomes s (start_task w s)) (becomes v (start_fdr e v)) s' v' fine) where
    pub steps_not_set : fine ≡ false → false ≡ steps_from_start w e c is s v
    unfolding steps_from_start
    steps_not_set h = not_found (start_task w s) (start_fdr e v) _ s v s' v' fine made h

    pub runs_not_set : fine ≡ false → false ≡ runs_from_start w e c is s v
    unfolding runs_from_start
    runs_not_set h = not_found (start_task w s) (start_fdr e v) _ s v s' v' fine made h

    module _ (set : fine ≡ true) where
      pub steps_set : (same_states w e c s' v' && steps_same w e c is s' v') ≡ steps_from_start w e c is s v
      unfolding steps_from_start
      steps_set = are_found (start_task w s) (start_fdr e v) (λ x y. same_states w e c x y && steps_same w e c is x y) s v s' v' fine made set

      runs_set : runs_same w e c is s' v' ≡ runs_from_start w e c is s v
      unfolding runs_from_start
      runs_set = are_found (start_task w s) (start_fdr e v) (runs_same w e c is) s v s' v' fine made set

      -- then the list is run: s' and v' become s'' and v''
      pub runs_made :
          {s'' v'' : List ℕ} {answers : Bool} → Both (same_answer eqb) (run_task w s' is) (run_fdr e v' is) s'' v'' answers
          → (answers && (same_states w e c s'' v'' && left_by_steps w e is s'' v'')) ≡ runs_from_start w e c is s v
      unfolding runs_same
      runs_made ran = rw (ran.answers, ran.state, ran.values) runs_set

-- ---- steps: of a list the numbers below i are done, from s₀ and v₀ to s and v
pub record Stepping (w e c list s₀ v₀ s v : List ℕ) (i : ℕ) : Type 0 where
  pub inside : i ≤ length list
  pub lengths : SameLengths s₀ v₀ s v
  pub rest : steps_same w e c list s₀ v₀ ≡ steps_same w e c (drop i list) s v

module _ (w e c list s₀ v₀ : List ℕ) where
  module _ (s v : List ℕ) (i : ℕ) (now : Stepping w e c list s₀ v₀ s v i) where
    pub stepping_end : length list ≤ i → true ≡ steps_same w e c list s₀ v₀
    unfolding steps_same
    stepping_end h = rw (now.rest, drop_of_length-le list {i = i} h)

    -- the next step: s and v become s' and v'
    module _ (s' v' : List ℕ) (inside : i < length list) (answers : Bool)
        (made : Both (same_answer same_unit) (becomes s (step_task w s (get_or list i 0))) (becomes v (step_fdr e v (get_or list i 0))) s' v' answers) where
      pub step_differs : answers ≡ false → false ≡ steps_same w e c list s₀ v₀
      unfolding steps_same
      step_differs h = rw (now.rest, left_here list i 0 (get_or list i 0) refl inside, ← made.answers, h)

      pub states_differ : answers ≡ true → same_states w e c s' v' ≡ false → false ≡ steps_same w e c list s₀ v₀
      unfolding steps_same
      states_differ h k = rw (now.rest, left_here list i 0 (get_or list i 0) refl inside, ← made.answers, h, ← made.state, ← made.values, k)

      rest_on : answers ≡ true → same_states w e c s' v' ≡ true → steps_same w e c (drop i list) s v ≡ steps_same w e c (drop (i + 1) list) s' v'
      unfolding steps_same
      rest_on h k = rw (left_here list i 0 (get_or list i 0) refl inside, ← made.answers, h, ← made.state, ← made.values, k)

      pub step_on :
          SameLengths s v s' v' → answers ≡ true → same_states w e c s' v' ≡ true → Stepping w e c list s₀ v₀ s' v' (i + 1)
      step_on l h k =
          record {
            inside = omega arith;
            lengths = record { atoms = l.atoms ∙ now.lengths.atoms; values = l.values ∙ now.lengths.values };
            rest = now.rest ∙ rest_on h k;
          }

-- ---- of the states that are set only the lengths matter
pub start_task_lem : (w s s' : List ℕ) → length s ≡ length s' → start_task w s ≡ start_task w s'
unfolding start_task
start_task_lem w s s' h = ap (λ (k : ℕ). read_task w >>= λ t. ask 18 (eqb k t.atoms) >>= λ _. finding (initial_state t)) h

pub start_fdr_lem : (e v v' : List ℕ) → length v ≡ length v' → start_fdr e v ≡ start_fdr e v'
unfolding start_fdr
start_fdr_lem e v v' h = ap (λ (k : ℕ). read_fdr e >>= λ t. ask 18 (eqb k (length t.domains)) >>= λ _. finding t.initial) h

module _ (w e c is s v s' v' : List ℕ) (es : length s ≡ length s') (ev : length v ≡ length v') where
  runs_lengths : runs_from_start w e c is s v ≡ runs_from_start w e c is s' v'
  unfolding runs_from_start
  runs_lengths = rw (start_task_lem w s s' es, start_fdr_lem e v v' ev)

  steps_lengths : steps_from_start w e c is s v ≡ steps_from_start w e c is s' v'
  unfolding steps_from_start
  steps_lengths = rw (start_task_lem w s s' es, start_fdr_lem e v v' ev)

  list_lengths_lem : list_same w e c is s v ≡ list_same w e c is s' v'
  unfolding list_same
  list_lengths_lem = rw (steps_lengths, runs_lengths)

  -- the steps, then the list runs, from what the steps left
  pub list_on : steps_from_start w e c is s v ≡ true → runs_from_start w e c is s' v' ≡ list_same w e c is s v
  unfolding list_same
  list_on h = rw (h, runs_lengths)

pub list_differs : (w e c is s v : List ℕ) → steps_from_start w e c is s v ≡ false → false ≡ list_same w e c is s v
unfolding list_same
list_differs w e c is s v h = rw h

-- states of as many atoms and variables as the images have
pub images_by :
    (w e c is s v : List ℕ) → length s ≡ (task_of w).atoms → length v ≡ length (fdr_of e).domains
    → list_same w e c is s v ≡ images_same w e c is
unfolding images_same
images_by w e c is s v es ev =
    list_lengths_lem w e c is s v (replicate (task_of w).atoms 0) (replicate (length (fdr_of e).domains) 0)
    (es ∙ sym (length-replicate (task_of w).atoms 0))
    (ev ∙ sym (length-replicate (length (fdr_of e).domains) 0))

-- ---- a refusal of the checker
module _ (w c : List ℕ) (marks : ℕ) (is : List ℕ) (r : Refusal) (h : refused r ≡ verdict (check w c marks)) where
  pub comparison_refused : refused r ≡ comparison w c marks is
  unfolding comparison
  comparison_refused = refused_first (check w c marks) _ r h

  pub demanded_refused : refused r ≡ demanded (check w c marks)
  unfolding demanded
  demanded_refused = rw (verdict_refused (check w c marks) r (sym h))
