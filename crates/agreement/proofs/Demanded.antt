-- For an accepted set every comparison passes: demand 3. Assumes nothing.
use mathlib.Core.Bool.{true, ◌&&◌}
use mathlib.Core.List.{List, [], ◌∷◌, ◌++◌}
use mathlib.Core.Path.{◌≡◌, refl, sym, ◌∙◌, ap, ap₂}
use Prim.Native.Nat.{ℕ, ◌≤◌}
use lib.Dec.{eqb, leb}
use native.Mathlib.Omega.{arith}
use lib.ListN.{length, get_or, take, drop, replicate, length-map, length-replicate, length-append}
use lib.Seq.{take_at}
use borrow.Author.Tests.{eq-eqb, leb-true}
use Rattle.definitions.specs.Answer.{Refusal, Answer, finding, refused, Outcome, outcome, state_after, becomes, ask, ask_at, ◌>>=◌}
use Rattle.definitions.specs.Literal.{most_atoms, all_true}
use Rattle.definitions.specs.Groups.{groups, written}
use Rattle.definitions.specs.Fdr.{FdrTask}
use Rattle.definitions.specs.FdrImage.{most_fdr_image, read_fdr}
use Rattle.definitions.specs.Image.{most_operators, Task, initial_state}
use Rattle.definitions.specs.Step.{step_task, goal_task, run_task}
use Rattle.definitions.specs.FdrStep.{step_fdr, goal_fdr, run_fdr}
use Rattle.definitions.specs.Coding.{to_atoms_call, from_atoms_call}
use Rattle.definitions.specs.StepLists.{verdicts, visited, Along, related}
use Rattle.definitions.specs.Checker.{Accepted, check}
use Rattle.definitions.specs.Encoding.{encode, encoded_image, encode_call}
use Rattle.definitions.specs.Agreement.{initial_values, by_run, task_end, fdr_end, SameState, InStep, Agreement}
use Rattle.definitions.specs.Demand3.{Reencoded}
use Rattle.definitions.proofs.ListLaws.{and_both, and_left}
use Rattle.definitions.proofs.AnswerLaws.{bind_of, ask_of, not_finding, same_finding}
use Rattle.definitions.proofs.CheckSound.{check_right}
use Rattle.definitions.proofs.Agreement.{ends_same, image_there}
use Rattle.definitions.proofs.Demand3.{demand_3}
use Rattle.task.specs.Reads.{task_of}
use Rattle.clause.specs.Rows.{clauses_of}
use Rattle.checker.specs.Accepts.{Accepts}
use Rattle.fdr_image.specs.Reads.{fdr_in, fdr_of, ReadsFdr}
use Rattle.agreement.specs.Same.{same_answer, both_found, same_unit, same_bool, same_list}
use Rattle.agreement.specs.Compared.{steps_taken, left_by_steps, same_states, steps_same, runs_same, steps_from_start, runs_from_start, list_same}
use Rattle.agreement.specs.Compared.{images_same, comparison, demanded}
use Rattle.agreement.proofs.SameLaws.{answer_self, unit_self, bool_self, list_self, found_self}

same_by : {x y : List ℕ} → x ≡ y → same_list y x ≡ true
same_by {x = x} {y = y} h = ap (λ (z : List ℕ). same_list y z) h ∙ list_self y

-- an image that is read has at most 32,768 words
fdr_size : (e : List ℕ) (t : FdrTask) → read_fdr e ≡ finding t → length e ≤ most_fdr_image
unfolding read_fdr ask
fdr_size e t h =
    let vars = get_or e 0 0 in
    let M = get_or e 1 0 in
    let test = leb (length e) most_fdr_image && leb 1 vars && leb vars most_atoms && leb M most_operators in
    let q = bind_of (ask_at 17 0 test) _ t h in
    leb-true (length e) most_fdr_image
    (and_left (leb (length e) most_fdr_image) (leb 1 vars)
    (and_left (leb (length e) most_fdr_image && leb 1 vars) (leb vars most_atoms)
    (and_left (leb (length e) most_fdr_image && leb 1 vars && leb vars most_atoms) (leb M most_operators) (ask_of 17 0 test q.0 q.1))))

module _ (w c : List ℕ) (marks : ℕ) (ok : Accepts w c marks) where
  abbrev t : Task
  t = task_of w

  abbrev C : List (List ℕ)
  C = clauses_of c

  abbrev e : List ℕ
  e = encoded_image t C

  abbrev s₀ : List ℕ
  s₀ = initial_state t

  abbrev v₀ : List ℕ
  v₀ = initial_values t C

  abbrev a : Accepted
  a = record { task = t; clauses = C }

  encoding : Reencoded w c marks a
  encoding = demand_3.agree w c marks a ok.found

  agrees : Agreement w t C
  agrees = encoding.agrees

  encoded_read : read_fdr e ≡ finding (encode t C)
  encoded_read = let r = check_right w c marks a ok.found in image_there w t C r.read r.invariant

  pub encoded_fdr : ReadsFdr e
  unfolding fdr_of fdr_in
  encoded_fdr = record { found = rw encoded_read }

  pub encoded_size : length e ≤ most_fdr_image
  encoded_size = fdr_size e (encode t C) encoded_read

  variables : length (fdr_of e).domains ≡ length v₀
  unfolding fdr_of fdr_in encode
  variables = rw encoded_read (length-map (groups t.atoms C) _ ∙ sym (length-map (groups t.atoms C) _))

  -- what the re-encoding answers, and leaves in a target that has room for every image
  module _ (target left : List ℕ) (room : length target ≡ most_fdr_image) where
    is_written : written target (encode_call w c marks (length target)) ≡ outcome (finding (length e)) (e ++ drop (length e) target)
    unfolding written
    is_written = let z = encoded_size in rw (encoding.image (length target) (omega arith))

    pub image_refused : (r : Refusal) → outcome (refused r) left ≡ written target (encode_call w c marks (length target)) → ⊥
    unfolding outcome
    image_refused r h = not_finding (ap (λ (x : Outcome ℕ). x.answer) (h ∙ is_written))

    module _ (k : ℕ) (h : outcome (finding k) left ≡ written target (encode_call w c marks (length target))) where
      words_are : k ≡ length e
      unfolding outcome
      words_are = same_finding k (length e) (ap (λ (x : Outcome ℕ). x.answer) (h ∙ is_written))

      left_is : left ≡ e ++ drop (length e) target
      unfolding outcome
      left_is = ap (λ (x : Outcome ℕ). x.lent) (h ∙ is_written)

      pub image_fits : k ≤ length left
      image_fits = omega (arith, words_are, ap length left_is, length-append e (drop (length e) target))

      pub image_is : take k left ≡ e
      image_is = rw (words_are, left_is) (take_at e (drop (length e) target) (length e) refl)

  -- two states that the demand calls the same are found so
  states_pass : (s v : List ℕ) → SameState w t C s v → same_states w e c s v ≡ true
  unfolding same_states both_found
  states_pass s v x =
      let goals : both_found same_bool (goal_task w s) (goal_fdr e v) ≡ true =
      ap₂ (both_found same_bool) x.goal x.goal_fdr_lem ∙ bool_self (all_true s t.goal) in
      let to : to_atoms_call e v (length s) ≡ finding s = ap (to_atoms_call e v) x.bytes ∙ x.to in
      and_both x.invariant
      (and_both goals (and_both (found_self (from_atoms_call e s (length v)) v x.from) (found_self (to_atoms_call e v (length s)) s to)))

  -- all steps of a list
  steps_pass :
      (is s v : List ℕ) → verdicts (step_task w) s is ≡ verdicts (step_fdr e) v is
      → Along (SameState w t C) (visited (step_task w) s is) (visited (step_fdr e) v is)
      → (same_states w e c s v && steps_same w e c is s v) ≡ true
  unfolding verdicts visited steps_same becomes outcome
  steps_pass [] s v h (related x xs) = and_both (states_pass s v x) refl
  steps_pass (i ∷ is) s v h (related x xs) =
      and_both (states_pass s v x)
      (and_both (heads h) (steps_pass is (state_after s (step_task w s i)) (state_after v (step_fdr e v i)) (tails h) xs))
    where
      heads : {x y : Answer (Unit {0})} {xs ys : List (Answer (Unit {0}))} → x ∷ xs ≡ y ∷ ys → same_answer same_unit x y ≡ true
      heads {x = x} {y = y} h = let k : x ≡ y = cc in rw k (answer_self same_unit unit_self y)

      tails : {x y : Answer (Unit {0})} {xs ys : List (Answer (Unit {0}))} → x ∷ xs ≡ y ∷ ys → xs ≡ ys
      tails h = cc

  module _ (is : List ℕ) where
    list : InStep w t C is
    list = agrees.lists is

    -- the states that the list runs leave
    abbrev s : List ℕ
    s = (run_task w s₀ is).lent

    abbrev v : List ℕ
    v = (run_fdr e v₀ is).lent

    run_ends : SameState w t C s v
    unfolding task_end fdr_end
    run_ends = let r = check_right w c marks a ok.found in ends_same w t C r.read r.invariant by_run is

    left_pass : left_by_steps w e is s v ≡ true
    unfolding left_by_steps steps_taken both_found
    left_pass =
        rw (agrees.start_task_lem s run_ends.bytes, agrees.start_fdr_lem v run_ends.vars)
        (and_both (same_by list.kept) (same_by list.kept_fdr))

    runs_pass : runs_same w e c is s₀ v₀ ≡ true
    unfolding runs_same
    runs_pass =
        and_both
        (ap (λ (x : Answer ℕ). same_answer eqb x (run_fdr e v₀ is).answer) (list.run ∙ sym list.run_fdr_lem)
        ∙ answer_self eqb (λ k. eq-eqb k k refl) (run_fdr e v₀ is).answer)
        (and_both (states_pass s v run_ends) left_pass)

    -- from any states of the right lengths
    list_pass : (s v : List ℕ) → length s ≡ t.atoms → length v ≡ length v₀ → list_same w e c is s v ≡ true
    unfolding list_same steps_from_start runs_from_start both_found
    list_pass s v es ev =
        rw (agrees.start_task_lem s es, agrees.start_fdr_lem v ev)
        (and_both (steps_pass is s₀ v₀ list.answers list.states) runs_pass)

    images_pass : images_same w e c is ≡ true
    unfolding images_same
    images_pass =
        list_pass (replicate t.atoms 0) (replicate (length (fdr_of e).domains) 0)
        (length-replicate t.atoms 0)
        (length-replicate (length (fdr_of e).domains) 0 ∙ variables)

    -- the comparison, and its answer
    pub comparison_is : finding (images_same w e c is) ≡ comparison w c marks is
    unfolding comparison ◌>>=◌
    comparison_is = rw ok.found

    pub comparison_passes : comparison w c marks is ≡ demanded (check w c marks)
    unfolding demanded
    comparison_passes = sym comparison_is ∙ rw (images_pass, ok.found)
