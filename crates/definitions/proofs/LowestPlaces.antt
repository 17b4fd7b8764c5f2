-- Refusals 10 and 11 name the lowest places, and the lowest places are refused so. Assumes nothing.
use mathlib.Core.List.{List, [], ◌∷◌}
use mathlib.Core.Option.{Option, none, some}
use mathlib.Core.Path.{◌≡◌, refl, sym, ◌∙◌, ap, subst}
use Prim.Native.Nat.{ℕ, zero, suc, ◌+◌, ◌≤◌, ◌<◌}
use native.Mathlib.Nat.{zero-add, add-zero, add-suc, suc-add}
use native.Mathlib.Omega.{arith}
use borrow.Author.Tests.{le-leb}
use lib.Dec.{leb}
use lib.ListN.{length, get_or}
use Rattle.definitions.specs.Lists.{first_fail}
use Rattle.definitions.specs.Answer.{Refusal, finding, refused, refuse, ask, ask_at, ◌>>=◌}
use Rattle.definitions.specs.Literal.{holds_in}
use Rattle.definitions.specs.Image.{Task, initial_state, read_task}
use Rattle.definitions.specs.Step.{no_operator, operator_at}
use Rattle.definitions.specs.Clauses.{read_clauses}
use Rattle.definitions.specs.Kept.{kept}
use Rattle.definitions.specs.Checker.{ask_true, fails_under, ask_kept, accept, Accepted, check}
use Rattle.definitions.specs.Groups.{Written, groups_call}
use Rattle.definitions.specs.Encoding.{encode_call}
use Rattle.definitions.specs.LowestPlaces.{true_at, kept_at, LowestFalse, LowestNotKept, AllTrue, ReadAs, Refuses, AllRefuse}
use Rattle.definitions.specs.LowestPlaces.{Refused10, Refused11, LowestPlaces}
use Rattle.definitions.specs.LowestPlaces.Refuses.{by_checker, by_groups, by_reencoding}
use Rattle.definitions.specs.Marks.{mark_bytes}
use Rattle.definitions.proofs.ListLaws.{all_at, get_or_mem}
use Rattle.definitions.proofs.FirstFail.{First, first_none, none_first, first_some, some_first}
use Rattle.definitions.proofs.AnswerLaws.{not_finding, same_refusal_lem, refused_after_lem, refused_by, ask_refused}
use Rattle.definitions.proofs.CheckSound.{true_all}
use Rattle.definitions.proofs.QuestionNumbers.{task_numbers, clauses_numbers}

-- ---- from the calls to questions 10 and 11
-- a refusal with 10 or 11: task and clauses are read, and `accept` refuses so
record Judged (w c : List ℕ) (r : Refusal) : Type 0 where
  task : Task
  clauses : List (List ℕ)
  read : ReadAs w c task clauses
  refuses : accept task clauses ≡ refused r

module _ (w c : List ℕ) (r : Refusal) (from-10 : 10 ≤ r.number) (to-11 : r.number ≤ 11) where
  check_judged : (marks : ℕ) → check w c marks ≡ refused r → Judged w c r
  unfolding check ask
  check_judged marks e =
      let q1 = refused_after_lem _ r (read_task w) e (λ h. let few = task_numbers w r h in omega arith) in
      let t = q1.0 in
      let q2 = refused_after_lem _ r (read_clauses t.atoms c) q1.2 (λ h. let few = clauses_numbers t.atoms c r h in omega arith) in
      let C = q2.0 in
      let room = leb (mark_bytes t.atoms) marks in
      let q3 = refused_after_lem _ r (ask_at 13 0 room) q2.2 (λ h. let same = ask_refused 13 0 room r h in omega arith) in
      record {
        task = t;
        clauses = C;
        read = record { task = q1.1; clauses = q2.1 };
        refuses = refused_by _ r (accept t C) q3.2 (λ _ h. not_finding (sym h));
      }

  -- groups and re-encoding ask the checker's questions, then 16
  only_16 : (marks target : ℕ) (size : Accepted → ℕ) (x : Accepted → Written)
      → (check w c marks >>= λ a. ask 16 (leb (size a) target) >>= λ _. finding (x a)) ≡ refused r → check w c marks ≡ refused r
  unfolding ask
  only_16 marks target size x e = refused_by _ r (check w c marks) e (λ a h.
      let q = refused_by _ r (ask_at 16 0 (leb (size a) target)) h (λ _ f. not_finding (sym f)) in
      let same = ask_refused 16 0 (leb (size a) target) r q in
      omega arith)

  judged : Refuses w c r.number r.first r.second → Judged w c r
  unfolding refuse groups_call encode_call
  judged (by_checker marks e) = check_judged marks e
  judged (by_groups marks target e) = check_judged marks (only_16 marks target _ _ e)
  judged (by_reencoding marks target e) = check_judged marks (only_16 marks target _ _ e)

module _ (t : Task) (C : List (List ℕ)) where
  -- ---- question 10
  true_refused : (r : Refusal) → ask_true t C ≡ refused r → (r.number ≡ 10) × LowestFalse t C r.first × (r.second ≡ 0)
  unfolding ask_true true_at refuse
  true_refused r e = go (first_fail (holds_in (initial_state t)) 0 C) refl
    where
      go : (x : Option ℕ) → first_fail (holds_in (initial_state t)) 0 C ≡ x → (r.number ≡ 10) × LowestFalse t C r.first × (r.second ≡ 0)
      go none p = absurd (not_finding (sym (rw (p, ask_true) at e)))
      go (some k) p =
          let f = some_first (holds_in (initial_state t)) [] 0 C k p in
          let lowest : LowestFalse t C f.0 = record { inside = f.2.inside; before = f.2.before; false_here = f.2.fails } in
          subst (λ (r : Refusal). (r.number ≡ 10) × LowestFalse t C r.first × (r.second ≡ 0)) (same_refusal_lem _ r (rw (p, ask_true) at e))
          (refl, subst (LowestFalse t C) (sym (f.1 ∙ zero-add f.0)) lowest, refl)

  false_refused : (i : ℕ) → LowestFalse t C i → ask_true t C ≡ refuse 10 i 0
  unfolding ask_true true_at
  false_refused i l =
      rw (first_some (holds_in (initial_state t)) [] 0 C i (record { inside = l.inside; before = l.before; fails = l.false_here }), ask_true, zero-add)

  all_found : AllTrue t C → ask_true t C ≡ finding tt
  unfolding ask_true true_at
  all_found h = rw (first_none (holds_in (initial_state t)) [] 0 C h, ask_true)

  found_all : (u : Unit {0}) → ask_true t C ≡ finding u → AllTrue t C
  unfolding true_at
  found_all u e k l = all_at (holds_in (initial_state t)) (true_all t C u e) (get_or_mem C k [] l)

  -- ---- question 11
  -- of the clauses D: those before place `low` are kept, and the one there is not, under operator `under` first
  pub record Fails (D : List (List ℕ)) (low under : ℕ) : Type 0 where
    pub inside : low < length D
    pub before : (k : ℕ) → k < low → fails_under t C (get_or D k []) ≡ none
    pub here : fails_under t C (get_or D low []) ≡ some under

  -- so says the refusal r of question 11, of the clauses D from clause i on
  record FailsFrom (i : ℕ) (D : List (List ℕ)) (r : Refusal) : Type 0 where
    number : r.number ≡ 11
    low : ℕ
    first : r.first ≡ i + low
    fails : Fails D low r.second

  kept_refused : (i : ℕ) (D : List (List ℕ)) (r : Refusal) → ask_kept t C i D ≡ refused r → FailsFrom i D r
  unfolding ask_kept refuse
  kept_refused i [] r e = absurd (not_finding (sym e))
  kept_refused i (f ∷ D) r e = go (fails_under t C f) refl (λ h. kept_refused (suc i) D r h)
    where
      ahead : fails_under t C f ≡ none → (low under : ℕ) → Fails D low under → Fails (f ∷ D) (suc low) under
      ahead h low under s = record { inside = let l = s.inside in omega arith; before = all_before; here = s.here }
        where
          all_before : (k : ℕ) → k < suc low → fails_under t C (get_or (f ∷ D) k []) ≡ none
          all_before zero l = h
          all_before (suc k) l = s.before k (omega arith)

      go : (x : Option ℕ) → fails_under t C f ≡ x → (ask_kept t C (suc i) D ≡ refused r → FailsFrom (suc i) D r) → FailsFrom i (f ∷ D) r
      go (some j) h rec =
          let here : Fails (f ∷ D) 0 j = record { inside = omega arith; before = λ k l. absurd (omega arith); here = h } in
          subst (FailsFrom i (f ∷ D)) (same_refusal_lem _ r (rw (h, ask_kept) at e))
          (record { number = refl; low = 0; first = sym (add-zero i); fails = here })
      go none h rec =
          let s = rec (rw (h, ask_kept) at e) in
          record {
            number = s.number;
            low = suc s.low;
            first = let at = s.first in omega arith;
            fails = ahead h s.low r.second s.fails;
          }

  pub fails_refused : (i : ℕ) (D : List (List ℕ)) (low under : ℕ) → Fails D low under → ask_kept t C i D ≡ refuse 11 (i + low) under
  unfolding ask_kept
  fails_refused i [] low under s = absurd (let l = s.inside in omega arith)
  fails_refused i (f ∷ D) zero under s = rw (s.here, ask_kept, add-zero)
  fails_refused i (f ∷ D) (suc low) under s =
      rw (s.before 0 (omega arith), ask_kept)
      (fails_refused (suc i) D low under (behind s) ∙ ap (λ n. refuse 11 n under) (suc-add i low ∙ sym (add-suc i low)))
    where
      behind : Fails (f ∷ D) (suc low) under → Fails D low under
      behind s = record { inside = let l = s.inside in omega arith; before = λ k l. s.before (suc k) (omega arith); here = s.here }

  pub none_fails_lem : (i : ℕ) (D : List (List ℕ)) → ((k : ℕ) → k < length D → fails_under t C (get_or D k []) ≡ none) → ask_kept t C i D ≡ finding tt
  unfolding ask_kept
  none_fails_lem i [] h = refl
  none_fails_lem i (f ∷ D) h = rw (h 0 (omega arith), ask_kept) (none_fails_lem (suc i) D (λ k l. h (suc k) (omega arith)))

  -- the lowest places, by the first operator under which each clause fails
  fails_lowest : (i j : ℕ) → Fails C i j → LowestNotKept t C i j
  unfolding kept_at fails_under operator_at
  fails_lowest i j s =
      let f = some_first (λ o. kept t.atoms C o (get_or C i [])) no_operator 0 t.operators j s.here in
      let same : f.0 ≡ j = sym (f.1 ∙ zero-add f.0) in
      let first = subst (λ (k : ℕ). First (λ o. kept t.atoms C o (get_or C i [])) no_operator t.operators k) same f.2 in
      record {
        clause_inside = s.inside;
        operator_inside = first.inside;
        clauses_before = λ k o l m. none_first (λ o. kept t.atoms C o (get_or C k [])) no_operator 0 t.operators (s.before k l) o m;
        operators_before = first.before;
        not_kept = first.fails;
      }

  lowest_fails : (i j : ℕ) → LowestNotKept t C i j → Fails C i j
  unfolding kept_at fails_under operator_at
  lowest_fails i j s =
      record {
        inside = s.clause_inside;
        before = λ k l. first_none (λ o. kept t.atoms C o (get_or C k [])) no_operator 0 t.operators (λ o m. s.clauses_before k o l m);
        here =
            first_some (λ o. kept t.atoms C o (get_or C i [])) no_operator 0 t.operators j
            (record { inside = s.operator_inside; before = s.operators_before; fails = s.not_kept })
            ∙ ap some (zero-add j);
      }

-- ---- both questions, and the calls
module _ (t : Task) (C : List (List ℕ)) (r : Refusal) (e : accept t C ≡ refused r) where
  at_true : r.number ≡ 10 → LowestFalse t C r.first × (r.second ≡ 0)
  unfolding accept
  at_true n =
      let s = true_refused t C r (refused_by _ r (ask_true t C) e (λ u h. let m = (kept_refused t C 0 C r h).number in omega arith)) in
      (s.1, s.2)

  at_kept : r.number ≡ 11 → AllTrue t C × LowestNotKept t C r.first r.second
  unfolding accept
  at_kept n =
      let p = refused_after_lem _ r (ask_true t C) e (λ h. let m = (true_refused t C r h).0 in omega arith) in
      let s = kept_refused t C 0 C r p.2 in
      let first : s.low ≡ r.first = sym (s.first ∙ zero-add s.low) in
      (found_all t C p.0 p.1, subst (λ (i : ℕ). LowestNotKept t C i r.second) first (fails_lowest t C s.low r.second s.fails))

-- the refusal with a number at two places
abbrev refusal : ℕ → ℕ → ℕ → Refusal
refusal q i j = record { number = q; first = i; second = j }

names_10 : (w c : List ℕ) (i j : ℕ) → Refuses w c 10 i j → Refused10 w c i j
names_10 w c i j e =
    let g = judged w c (refusal 10 i j) (omega arith) (omega arith) e in
    let a = at_true g.task g.clauses (refusal 10 i j) g.refuses refl in
    record { task = g.task; clauses = g.clauses; read = g.read; lowest = a.0; no_second = a.1 }

names_11 : (w c : List ℕ) (i j : ℕ) → Refuses w c 11 i j → Refused11 w c i j
names_11 w c i j e =
    let g = judged w c (refusal 11 i j) (omega arith) (omega arith) e in
    let a = at_kept g.task g.clauses (refusal 11 i j) g.refuses refl in
    record { task = g.task; clauses = g.clauses; read = g.read; all_true_lem = a.0; lowest = a.1 }

-- the checker's answer, of a task and clauses that are read
pub check_read :
    (w c : List ℕ) (marks : ℕ) (t : Task) (C : List (List ℕ)) → ReadAs w c t C → mark_bytes t.atoms ≤ marks
    → check w c marks ≡ (accept t C >>= λ _. finding (record { task = t; clauses = C }))
unfolding check ask ask_at ◌>>=◌
check_read w c marks t C read room = rw (read.task, read.clauses, le-leb (mark_bytes t.atoms) marks room)

-- what `accept` refuses with is what the calls refuse with
module _ (w c : List ℕ) (marks : ℕ) (t : Task) (C : List (List ℕ)) (read : ReadAs w c t C) (room : mark_bytes t.atoms ≤ marks) (q i j : ℕ) where
  check_refuses : accept t C ≡ refuse q i j → check w c marks ≡ refuse q i j
  unfolding refuse ◌>>=◌
  check_refuses e = rw (check_read w c marks t C read room, e)

  all_refuse : accept t C ≡ refuse q i j → AllRefuse w c marks q i j
  unfolding groups_call encode_call refuse ◌>>=◌
  all_refuse e =
      record {
        checker = check_refuses e;
        groups = λ target. rw (check_refuses e);
        reencoding = λ target. rw (check_refuses e);
      }

pub lowest_places : LowestPlaces
unfolding accept refuse ◌>>=◌
lowest_places =
    record {
      at_10 = names_10;
      at_11 = names_11;
      finds_false = λ w c marks t C read room i l. all_refuse w c marks t C read room 10 i 0 (rw (false_refused t C i l));
      finds_not_kept =
          λ w c marks t C read room h i j l.
          all_refuse w c marks t C read room 11 i j
          (rw (all_found t C h) (fails_refused t C 0 C i j (lowest_fails t C i j l) ∙ ap (λ n. refuse 11 n j) (zero-add i)));
    }
