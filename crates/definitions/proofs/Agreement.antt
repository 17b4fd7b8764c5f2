-- A task and its re-encoding by an inductive set that holds initially go in step. Assumes nothing.
use mathlib.Core.Bool.{true}
use mathlib.Core.Path.{◌≡◌, refl, sym, ◌∙◌, ap, ap₂, subst}
use mathlib.Core.List.{List, [], map}
use Prim.Native.Nat.{ℕ, ◌<◌}
use native.Mathlib.Omega.{arith}
use lib.ListN.{length, get_or, take, length-map}
use borrow.Author.Tests.{eq-eqb}
use Rattle.definitions.specs.Lists.{below}
use Rattle.definitions.specs.Answer.{Answer, finding, outcome, ask, ask_at, ◌>>=◌}
use Rattle.definitions.specs.Literal.{is_state, all_true, literal_list}
use Rattle.definitions.specs.Image.{Task, initial_state, read_task}
use Rattle.definitions.specs.Step.{step, step_task, goal_task, start_task, run_task}
use Rattle.definitions.specs.StepLists.{run_from, not_run, walk, verdicts, run_answer}
use Rattle.definitions.specs.Invariant.{Invariant}
use Rattle.definitions.specs.Groups.{groups, Domain, domain_of, place_of}
use Rattle.definitions.specs.Fdr.{no_domain}
use Rattle.definitions.specs.FdrImage.{read_fdr}
use Rattle.definitions.specs.FdrStep.{is_fdr_state, fdr_step, step_fdr, goal_fdr, start_fdr, run_fdr}
use Rattle.definitions.specs.Encoding.{encode, encoded_image}
use Rattle.definitions.specs.Coding.{to_atoms_call, from_atoms_call}
use Rattle.definitions.specs.Agreement.{initial_values, Way, by_steps, by_run, task_end, fdr_end, SameState, InStep, Agreement, InvariantsAgree}
use Rattle.definitions.proofs.ListLaws.{and_both}
use Rattle.definitions.proofs.StepLists.{Alike, both_found_lem, both_refused, along_map, run_answer_lem, run_left}
use Rattle.definitions.proofs.StepLists.{walk_alike, verdicts_alike, visited_alike, before_alike, run_alike}
use Rattle.definitions.proofs.ReadLaws.{Right}
use Rattle.definitions.proofs.Simulation.{Coded, coded_state}
use Rattle.definitions.proofs.LiteralLaws.{list_low}
use Rattle.definitions.proofs.ListLaws.{below_count, get_or_map_low}
use Rattle.definitions.proofs.StepsAlike.{domains_count, steps_alike, starts_coded, goals_alike, to_atoms_lem}
use Rattle.definitions.proofs.AnswerLaws.{same_finding}
use Rattle.definitions.proofs.ReadLaws.{read_right}
use Rattle.definitions.proofs.ImageSize.{read_sizes}
use Rattle.definitions.proofs.FdrValid.{values_right_lem, image_read}
use Rattle.definitions.proofs.FromAtoms.{from_atoms_lem}

-- image w reads as task t
module _ (w : List ℕ) (t : Task) (C : List (List ℕ)) (read : read_task w ≡ finding t) (inv : Invariant t C) where
  abbrev image : List ℕ
  image = encoded_image t C

  abbrev s₀ : List ℕ
  s₀ = initial_state t

  abbrev v₀ : List ℕ
  v₀ = initial_values t C

  -- the states that go together
  abbrev R : List ℕ → List ℕ → Type 0
  R = Coded t.atoms C

  right : Right t
  right = (read_right w t read).operators

  goal : literal_list t.atoms t.goal ≡ true
  goal = (read_right w t read).goal

  start : R s₀ v₀
  start = starts_coded t C inv.starts

  -- the re-encoded image is read
  pub image_there : read_fdr image ≡ finding (encode t C)
  unfolding encoded_image
  image_there = image_read t C right inv.starts (read_sizes w t read) goal

  atoms_count : length (encode t C).atoms ≡ t.atoms
  unfolding encode
  atoms_count = length-map (below t.atoms) (λ a. place_of a 0 (groups t.atoms C)) ∙ below_count t.atoms

  -- ---- in states that code each other, question 18 is answered yes
  module _ (s v : List ℕ) (coded : R s v) where
    is_state_lem : is_state t.atoms s ≡ true
    is_state_lem = coded_state t.atoms C s v coded

    is_fdr_state_lem : is_fdr_state (encode t C) v ≡ true
    unfolding is_fdr_state encode
    is_fdr_state_lem =
        values_right_lem (map (domain_of C) G) v (coded.vars ∙ sym (length-map G (domain_of C)))
        (λ x h.
        let c = length-map G (domain_of C) in
        let low : x < length G = omega arith in
        subst (λ (d : Domain). get_or v x 0 < d.values) (sym (get_or_map_low (domain_of C) G x [] no_domain low)) (coded.ranges x low))
      where
        G : List (List ℕ)
        G = groups t.atoms C

    step_call_lem : (i : ℕ) → step_task w s i ≡ step t s i
    unfolding step_task ask ask_at ◌>>=◌
    step_call_lem i = rw (read, is_state_lem)

    fdr_step_call : (i : ℕ) → step_fdr image v i ≡ fdr_step (encode t C) v i
    unfolding step_fdr ask ask_at ◌>>=◌
    fdr_step_call i = rw (image_there, is_fdr_state_lem)

    calls_alike : (i : ℕ) → Alike R (step_task w s i) (step_fdr image v i)
    calls_alike i = rw (step_call_lem i, fdr_step_call i) (steps_alike t C right inv s v coded i)

    -- both goal tests say whether the goal is met
    goal_call_lem : goal_task w s ≡ finding (all_true s t.goal)
    unfolding goal_task ask ask_at ◌>>=◌
    goal_call_lem = rw (read, is_state_lem)

    fdr_goal_call : goal_fdr image v ≡ finding (all_true s t.goal)
    unfolding goal_fdr ask ask_at ◌>>=◌
    fdr_goal_call = rw (image_there, is_fdr_state_lem) (ap finding (goals_alike t C s v coded (list_low t.atoms t.goal goal)))

    -- coding to atoms and from atoms
    to_call : to_atoms_call image v t.atoms ≡ finding s
    unfolding to_atoms_call ask ask_at ◌>>=◌
    to_call = rw (image_there, is_fdr_state_lem, eq-eqb t.atoms (length (encode t C).atoms) (sym atoms_count)) (ap finding (to_atoms_lem t C s v coded))

    from_call : from_atoms_call image s (length v) ≡ finding v
    unfolding from_atoms_call ask ask_at ◌>>=◌
    from_call =
        rw (image_there)
        (rw (and_both (ap (λ n. is_state n s) atoms_count ∙ is_state_lem)
        (eq-eqb (length v) (length (encode t C).domains) (coded.vars ∙ sym (domains_count t C))))
        (from_atoms_lem t C s v coded))

    run_call_lem : (is : List ℕ) → run_task w s is ≡ run_from (step t) s 0 is
    unfolding run_task not_run ask ask_at ◌>>=◌
    run_call_lem is = rw (read, is_state_lem)

    fdr_run_call : (is : List ℕ) → run_fdr image v is ≡ run_from (fdr_step (encode t C)) v 0 is
    unfolding run_fdr not_run ask ask_at ◌>>=◌
    fdr_run_call is = rw (image_there, is_fdr_state_lem)

  -- setting to the initial state
  start_call_lem : (s : List ℕ) → length s ≡ t.atoms → start_task w s ≡ finding s₀
  unfolding start_task ask ask_at ◌>>=◌
  start_call_lem s h = rw (read, eq-eqb (length s) t.atoms h)

  fdr_start_call : (v : List ℕ) → length v ≡ length v₀ → start_fdr image v ≡ finding v₀
  unfolding start_fdr ask ask_at ◌>>=◌
  fdr_start_call v h =
      rw image_there (rw (eq-eqb (length v) (length (encode t C).domains) (h ∙ start.vars ∙ sym (domains_count t C))))

  -- two such pairs have one state of the task exactly if they have one finite-domain state
  same_states_lem : (s v s' v' : List ℕ) → SameState w t C s v → SameState w t C s' v' → (s ≡ s' → v ≡ v') × (v ≡ v' → s ≡ s')
  same_states_lem s v s' v' p q = (to_fdr, to_task)
    where
      to_fdr : s ≡ s' → v ≡ v'
      to_fdr e = same_finding v v' (sym p.from ∙ ap₂ (from_atoms_call image) e (p.vars ∙ sym q.vars) ∙ q.from)

      to_task : v ≡ v' → s ≡ s'
      to_task e = same_finding s s' (sym p.to ∙ ap (λ z. to_atoms_call image z t.atoms) e ∙ q.to)

  same : (s v : List ℕ) → R s v → SameState w t C s v
  same s v k =
      record {
        invariant = k.sat;
        bytes = k.len;
        vars = k.vars ∙ sym start.vars;
        goal = goal_call_lem s v k;
        goal_fdr_lem = fdr_goal_call s v k;
        to = to_call s v k;
        from = from_call s v k;
      }

  -- a state of the task, or a finite-domain state, that codes some other: there the call's step is that of the task read
  TaskSide : List ℕ → List ℕ → Type 0
  TaskSide s s' = (s ≡ s') × ((v : List ℕ) × R s v)

  FdrSide : List ℕ → List ℕ → Type 0
  FdrSide v v' = (v ≡ v') × ((s : List ℕ) × R s v)

  task_side : (s s' : List ℕ) → TaskSide s s' → (i : ℕ) → Alike TaskSide (step_task w s i) (step t s' i)
  unfolding TaskSide
  task_side s s' x i =
      subst (λ (z : List ℕ). Alike TaskSide (step_task w s i) (step t z i)) x.0
      (rw (step_call_lem s x.1.0 x.1.1 i) (go (steps_alike t C right inv s x.1.0 x.1.1 i)))
    where
      go : {p q : Answer (List ℕ)} → Alike R p q → Alike TaskSide p p
      go (both_found_lem {s = u} {v = y} k) = both_found_lem (refl, (y, k))
      go (both_refused r) = both_refused r

  fdr_side : (v v' : List ℕ) → FdrSide v v' → (i : ℕ) → Alike FdrSide (step_fdr image v i) (fdr_step (encode t C) v' i)
  unfolding FdrSide
  fdr_side v v' x i =
      subst (λ (z : List ℕ). Alike FdrSide (step_fdr image v i) (fdr_step (encode t C) z i)) x.0
      (rw (fdr_step_call x.1.0 v x.1.1 i) (go (steps_alike t C right inv x.1.0 v x.1.1 i)))
    where
      go : {p q : Answer (List ℕ)} → Alike R p q → Alike FdrSide q q
      go (both_found_lem {s = u} {v = y} k) = both_found_lem (refl, (u, k))
      go (both_refused r) = both_refused r

  module _ (is : List ℕ) where
    ends : SameState w t C (walk (step_task w) s₀ is) (walk (step_fdr image) v₀ is)
    ends = same (walk (step_task w) s₀ is) (walk (step_fdr image) v₀ is) (walk_alike R (step_task w) (step_fdr image) calls_alike is s₀ v₀ start)

    task_run : run_task w s₀ is ≡ run_from (step t) s₀ 0 is
    task_run = run_call_lem s₀ v₀ start is

    fdr_run : run_fdr image v₀ is ≡ run_from (fdr_step (encode t C)) v₀ 0 is
    fdr_run = fdr_run_call s₀ v₀ start is

    runs :
        ((run_from (step t) s₀ 0 is).answer ≡ (run_from (fdr_step (encode t C)) v₀ 0 is).answer)
        × R (run_from (step t) s₀ 0 is).lent (run_from (fdr_step (encode t C)) v₀ 0 is).lent
    runs = run_alike R (step t) (fdr_step (encode t C)) (steps_alike t C right inv) is s₀ v₀ 0 start

    run_ends : SameState w t C (run_task w s₀ is).lent (run_fdr image v₀ is).lent
    run_ends = rw (task_run, fdr_run) (same (run_from (step t) s₀ 0 is).lent (run_from (fdr_step (encode t C)) v₀ 0 is).lent runs.1)

    -- the list run by the calls' steps
    task_steps : run_from (step_task w) s₀ 0 is ≡ run_task w s₀ is
    unfolding TaskSide outcome
    task_steps =
        let both = run_alike TaskSide (step_task w) (step t) task_side is s₀ s₀ 0 (refl, (v₀, start)) in
        ap₂ outcome both.0 both.1.0 ∙ sym task_run

    fdr_steps : run_from (step_fdr image) v₀ 0 is ≡ run_fdr image v₀ is
    unfolding FdrSide outcome
    fdr_steps =
        let both = run_alike FdrSide (step_fdr image) (fdr_step (encode t C)) fdr_side is v₀ v₀ 0 (refl, (s₀, start)) in
        ap₂ outcome both.0 both.1.0 ∙ sym fdr_run

    answers_same : verdicts (step_task w) s₀ is ≡ verdicts (step_fdr image) v₀ is
    answers_same = verdicts_alike R (step_task w) (step_fdr image) calls_alike is s₀ v₀ start

    in_step : InStep w t C is
    in_step =
        record {
          answers = answers_same;
          states = along_map same (visited_alike R (step_task w) (step_fdr image) calls_alike is s₀ v₀ start);
          run = ap (λ r. r.answer) (sym task_steps) ∙ run_answer_lem (step_task w) is s₀ 0;
          run_fdr_lem = ap (λ r. r.answer) (sym fdr_steps) ∙ run_answer_lem (step_fdr image) is v₀ 0 ∙ ap (run_answer 0) (sym answers_same);
          kept = ap (λ r. r.lent) (sym task_steps) ∙ run_left (step_task w) is s₀ 0;
          kept_fdr =
              ap (λ r. r.lent) (sym fdr_steps)
              ∙ run_left (step_fdr image) is v₀ 0
              ∙ ap (λ k. walk (step_fdr image) v₀ (take k is)) (sym (before_alike R (step_task w) (step_fdr image) calls_alike is s₀ v₀ start));
        }

  -- a list ends in the same states, however it is given
  pub ends_same : (p : Way) (is : List ℕ) → SameState w t C (task_end w t p is) (fdr_end t C p is)
  unfolding task_end fdr_end
  ends_same by_steps is = ends is
  ends_same by_run is = run_ends is

  agreement : Agreement w t C
  agreement =
      record {
        start_task_lem = start_call_lem;
        start_fdr_lem = fdr_start_call;
        lists = in_step;
        two_lists =
            λ p q is js.
            same_states_lem (task_end w t p is) (fdr_end t C p is) (task_end w t q js) (fdr_end t C q js) (ends_same p is) (ends_same q js);
      }

pub invariants_agree : InvariantsAgree
invariants_agree = agreement
