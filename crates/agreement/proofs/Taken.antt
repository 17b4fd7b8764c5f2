-- Laws of single steps up to the first that is refused. Assumes nothing.
use mathlib.Core.Bool.{Bool, true, false, ◌&&◌}
use mathlib.Core.List.{List, [], ◌∷◌}
use mathlib.Core.Path.{◌≡◌, refl, sym, ◌∙◌, ap}
use Prim.Native.Nat.{ℕ, ◌+◌, ◌≤◌, ◌<◌}
use native.Mathlib.Omega.{arith}
use lib.ListN.{length, get_or, drop, drop_of_length-le}
use Rattle.definitions.specs.Answer.{Refusal, Answer, finding, refused, outcome, state_after, becomes}
use Rattle.definitions.specs.StepLists.{walk, steps_before}
use Rattle.definitions.specs.Step.{step_task, start_task}
use Rattle.definitions.specs.FdrStep.{step_fdr, start_fdr}
use Rattle.definitions.proofs.Walks.{left_here}
use Rattle.definitions.proofs.AnswerLaws.{step_found, step_refused}
use Rattle.agreement.specs.Same.{both_found, same_unit, same_list, Both}
use Rattle.agreement.specs.Compared.{steps_taken, left_by_steps, Walked, SameLengths}
use Rattle.agreement.proofs.SameLaws.{not_found, are_found}
use Rattle.agreement.proofs.Comparing.{start_task_lem, start_fdr_lem}

module _ (w s : List ℕ) (i : ℕ) (list : List ℕ) where
  -- nothing is left
  taken_end : length list ≤ i → steps_taken w s (drop i list) ≡ []
  unfolding steps_taken steps_before
  taken_end h = rw (drop_of_length-le list {i = i} h)

  module _ (s' : List ℕ) (o : ℕ) (inside : i < length list) (eo : o ≡ get_or list i 0) where
    -- the next step is refused
    taken_none : (r : Refusal) → step_task w s o ≡ refused r → steps_taken w s (drop i list) ≡ []
    unfolding steps_taken steps_before
    taken_none r e = rw (left_here list i 0 o eo inside, e, steps_before)

    -- or found
    taken_more : step_task w s o ≡ finding s' → steps_taken w s (drop i list) ≡ o ∷ steps_taken w s' (drop (i + 1) list)
    unfolding steps_taken steps_before
    taken_more e = rw (left_here list i 0 o eo inside, e, steps_before)

-- ---- both walks: of a list the numbers below i are done, from s₀ and v₀ to s and v; what the others lead to is what the list leads to
pub record Walking (w e list s₀ v₀ s v : List ℕ) (i : ℕ) : Type 0 where
  pub inside : i ≤ length list
  pub lengths : SameLengths s₀ v₀ s v
  pub rest : (s'' v'' : List ℕ) → Walked w e (drop i list) s v s'' v'' → Walked w e list s₀ v₀ s'' v''

module _ (w e list s₀ v₀ : List ℕ) where
  pub walking_start : Walking w e list s₀ v₀ s₀ v₀ 0
  walking_start = record { inside = omega arith; lengths = record { atoms = refl; values = refl }; rest = λ s'' v'' k. k }

  module _ (s v : List ℕ) (i : ℕ) (now : Walking w e list s₀ v₀ s v i) where
    pub walking_end : length list ≤ i → Walked w e list s₀ v₀ s v
    unfolding walk
    walking_end h = now.rest s v (record { state = rw (taken_end w s i list h); values = rw (taken_end w s i list h) })

    -- the next step of the task: s becomes s'
    module _ (s' : List ℕ) (inside : i < length list) where
      pub walking_stop : (r : Refusal) → outcome (refused r) s' ≡ becomes s (step_task w s (get_or list i 0)) → Walked w e list s₀ v₀ s' v
      unfolding walk
      walking_stop r h =
          let d = step_refused (step_task w s (get_or list i 0)) s s' r h in
          let n = taken_none w s i list s' (get_or list i 0) inside refl r d.0 in
          now.rest s' v (record { state = d.1 ∙ rw n; values = rw n })

      -- it is found, and v becomes v'
      module _ (v' : List ℕ) (h : outcome (finding tt) s' ≡ becomes s (step_task w s (get_or list i 0)))
          (ev : v' ≡ state_after v (step_fdr e v (get_or list i 0))) where
        walked_on : (s'' v'' : List ℕ) → Walked w e (drop (i + 1) list) s' v' s'' v'' → Walked w e (drop i list) s v s'' v''
        unfolding walk state_after
        walked_on s'' v'' k =
            let f = step_found (step_task w s (get_or list i 0)) s s' h in
            let m = taken_more w s i list s' (get_or list i 0) inside refl f in
            let taken = steps_taken w s' (drop (i + 1) list) in
            record {
              state = k.state ∙ sym (rw m (ap (λ (a : Answer (List ℕ)). walk (step_task w) (state_after s a) taken) f));
              values = k.values ∙ sym (rw m (ap (λ (x : List ℕ). walk (step_fdr e) x taken) (sym ev)));
            }

        pub walking_on : SameLengths s v s' v' → Walking w e list s₀ v₀ s' v' (i + 1)
        walking_on l =
            record {
              inside = omega arith;
              lengths = record { atoms = l.atoms ∙ now.lengths.atoms; values = l.values ∙ now.lengths.values };
              rest = λ s'' v'' k. now.rest s'' v'' (walked_on s'' v'' k);
            }

-- ---- the comparison: states t and u of the same lengths are set, to t' and u', and then walked
module _ (w e is s v t u t' u' : List ℕ) (lengths : SameLengths s v t u) (fine : Bool)
    (made : Both (both_found same_unit) (becomes t (start_task w t)) (becomes u (start_fdr e u)) t' u' fine) where
  test : List ℕ → List ℕ → Bool
  test a b = same_list (walk (step_task w) a (steps_taken w a is)) s && same_list (walk (step_fdr e) b (steps_taken w a is)) v

  left_by : both_found test (start_task w t) (start_fdr e u) ≡ left_by_steps w e is s v
  unfolding left_by_steps test
  left_by = rw (start_task_lem w t s lengths.atoms, start_fdr_lem e u v lengths.values)

  pub left_not_set : fine ≡ false → false ≡ left_by_steps w e is s v
  left_not_set h = not_found (start_task w t) (start_fdr e u) test t u t' u' fine made h ∙ left_by

  module _ (x y : List ℕ) (walked : Walked w e is t' u' x y) (set : fine ≡ true) where
    left_set : (same_list x s && same_list y v) ≡ left_by_steps w e is s v
    unfolding test
    left_set =
        rw (walked.state, walked.values)
        (are_found (start_task w t) (start_fdr e u) test t u t' u' fine made set ∙ left_by)

    pub left_differs : same_list x s ≡ false → false ≡ left_by_steps w e is s v
    left_differs h = rw (← left_set, h)

    pub left_on : same_list x s ≡ true → same_list y v ≡ left_by_steps w e is s v
    left_on h = rw (← left_set, h)
