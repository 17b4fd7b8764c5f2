-- A limit that always suffices: the rounds of the synthesis end within the bound, and its calls with them. Assumes nothing.
use mathlib.Core.Bool.{true, false, not}
use mathlib.Core.Logic.{◌⊎◌, inl, inr}
use mathlib.Core.Path.{◌≡◌, refl, sym, ◌∙◌, ap, subst}
use mathlib.Core.List.{List}
use Prim.Native.Nat.{ℕ, zero, suc, ◌+◌, ◌-◌, ◌≤◌, ◌<◌, ◌*◌}
use native.Mathlib.Nat.{mul-le-mul}
use native.Mathlib.Omega.{arith}
use lib.Dec.{ltb}
use lib.ListN.{length, get_or}
use borrow.Author.Tests.{ltb-true, ltb-false, not-true}
use Rattle.definitions.specs.Answer.{Refusal, Answer, finding, refused, refuse, number_of, outcome}
use Rattle.definitions.specs.Image.{Task, read_task}
use Rattle.definitions.specs.Synthesis.{set_at, Found, rows_in, synthesis, buffer_after, Made, made_of, synthesis_call}
use Rattle.definitions.specs.PossibleClauses.{possible_clauses}
use Rattle.definitions.specs.RoundBound.{round_bound, Admitted, fails_in, EndsIn, RoundsEnd, under, CallsEnd, LimitSuffices}
use Rattle.definitions.proofs.ListLaws.{decide, never, refuted}
use Rattle.definitions.proofs.AnswerLaws.{not_finding, same_finding, same_refusal_lem, OnlyAbove, above_finding}
use Rattle.definitions.proofs.ReadLaws.{read_right}
use Rattle.definitions.proofs.RoundLaws.{none_fails, FirstPassing, one_more, EndOfRounds, found, out_of_rounds, out_of_rows}
use Rattle.definitions.proofs.RoundLaws.{FirstFound, found_of, QuestionsPassed, questions_passed}
use Rattle.definitions.proofs.ClosedForms.{closed_forms}
use Rattle.definitions.proofs.PossibleClauses.{counted}
use Rattle.definitions.proofs.Shrinking.{subsumed_count, subsumed_most, shrinks, none_on}

-- ---- question 12 admits the bound
admitted : (N : ℕ) → Admitted N
unfolding round_bound
admitted N = record { one = one; two = two; three = three }
  where
    one : N ≤ 1024 → round_bound N 1 ≤ 65535
    one h = let e = (closed_forms N).one in omega arith

    two : N ≤ 181 → round_bound N 2 ≤ 65535
    two h =
        let e = (closed_forms N).two in
        let s : N * N ≤ 32761 = mul-le-mul h h in
        omega arith

    three : N ≤ 37 → round_bound N 3 ≤ 65535
    three h =
        let e = (closed_forms N).three_whole in
        let s : N * N ≤ 1369 = mul-le-mul h h in
        let a : N - 1 ≤ 36 = omega arith in
        let b : N - 2 ≤ 35 = omega arith in
        let f : 4 * N ≤ 148 = omega arith in
        let p : 4 * N * (N - 1) * (N - 2) ≤ 186480 = mul-le-mul (mul-le-mul f a) b in
        omega arith

-- ---- the rounds of the definition
module _ (t : Task) (n : ℕ) where
  fails_in_lem : (r : ℕ) → fails_in t n (suc r) ≡ not (none_fails t n r)
  unfolding fails_in none_fails
  fails_in_lem r = let same : suc r - 1 ≡ r = omega arith in rw same

  -- there is only one first set of which none fails
  first_once : (a b : ℕ) → FirstPassing t n a → FirstPassing t n b → a ≡ b
  first_once a b f g = go (decide (ltb a b)) (decide (ltb b a))
    where
      go : (ltb a b ≡ true) ⊎ (ltb a b ≡ false) → (ltb b a ≡ true) ⊎ (ltb b a ≡ false) → a ≡ b
      go (inl h) k = never f.here (g.earlier a (ltb-true a b h))
      go (inr h) (inl k) = never g.here (f.earlier b (ltb-true b a k))
      go (inr h) (inr k) =
          let p = ltb-false a b h in
          let q = ltb-false b a k in
          omega arith

  ends_in : (r : ℕ) → FirstPassing t n r → EndsIn t n (suc r)
  ends_in r f = record { some_round = omega arith; before = before; here = fails_in_lem r ∙ ap not f.here }
    where
      before : (q : ℕ) → 1 ≤ q → q < suc r → fails_in t n q ≡ true
      before zero a b = absurd (omega arith)
      before (suc i) a b = fails_in_lem i ∙ ap not (f.earlier i (omega arith))

  module _ (some : 1 ≤ n) where
    -- before a set of which a clause fails come only such sets
    failing_before : (r : ℕ) → none_fails t n (suc r) ≡ false → none_fails t n r ≡ false
    failing_before r h = refuted (λ e. never (none_on t n r e) h)

    -- each of them has made the subsumed clauses fewer
    left_over : (r : ℕ) → none_fails t n r ≡ false → subsumed_count t n (suc r) + suc r ≤ possible_clauses t.atoms n
    left_over zero h =
        let a = shrinks t n 0 some h in
        let b = subsumed_most t n 0 in
        omega arith
    left_over (suc r) h =
        let a = left_over r (failing_before r h) in
        let b = shrinks t n (suc r) some h in
        omega arith

    failing_bound : (r : ℕ) → none_fails t n r ≡ false → suc r ≤ possible_clauses t.atoms n
    failing_bound r h = let k = left_over r h in omega arith

    first_bound : (r : ℕ) → FirstPassing t n r → suc r ≤ round_bound t.atoms n
    unfolding round_bound
    first_bound zero f = omega arith
    first_bound (suc r) f = let k = failing_bound r (f.earlier r (omega arith)) in omega arith

    -- the search for the first, with k sets left
    search :
        (k r : ℕ) → r + k ≡ suc (possible_clauses t.atoms n) → ((i : ℕ) → i < r → none_fails t n i ≡ false)
        → (last : ℕ) × FirstPassing t n last
    search zero r e earlier =
        let last = possible_clauses t.atoms n in
        let k = failing_bound last (earlier last (omega arith)) in
        absurd (omega arith)
    search (suc k) r e earlier = go (decide (none_fails t n r)) (λ h. search k (suc r) (omega arith) (one_more t n r earlier h))
      where
        go :
            (none_fails t n r ≡ true) ⊎ (none_fails t n r ≡ false) → (none_fails t n r ≡ false → (last : ℕ) × FirstPassing t n last)
            → (last : ℕ) × FirstPassing t n last
        go (inl h) rec = (r, record { here = h; earlier = earlier })
        go (inr h) rec = rec h

    rounds_end : RoundsEnd t n
    rounds_end =
        let f = search (suc (possible_clauses t.atoms n)) 0 (omega arith) (λ i l. absurd (omega arith)) in
        record { failing = failing; last = suc f.0; ends = ends_in f.0 f.1; bounded = first_bound f.0 f.1 }
      where
        failing : (r : ℕ) → 1 ≤ r → fails_in t n r ≡ true → r ≤ possible_clauses t.atoms n
        failing zero a h = absurd (omega arith)
        failing (suc r) a h = failing_bound r (not-true (none_fails t n r) (sym (fails_in_lem r) ∙ h))

-- ---- the calls
module _ (w : List ℕ) (n : ℕ) (old : List ℕ) (work marks : ℕ) where
  -- what the rounds find under a limit
  abbrev found_under : ℕ → Answer Found
  found_under limit = synthesis w n limit (length old) work marks

  -- a finding of the call: the first set of which none fails, with its rounds
  record FirstMade (limit : ℕ) (m : Made) : Type 0 where
    task : Task
    read : read_task w ≡ finding task
    some_literal : 1 ≤ n
    set : Found
    call : found_under limit ≡ finding set
    first : FirstFound task n (rows_in (length old)) set
    counted : m.rounds ≡ suc first.before

  first_made : (limit : ℕ) (m : Made) → (under w n old work marks limit).answer ≡ finding m → FirstMade limit m
  unfolding synthesis_call outcome made_of
  first_made limit m e = go (found_under limit) refl e
    where
      go : (a : Answer Found) → found_under limit ≡ a → made_of a ≡ finding m → FirstMade limit m
      go (refused r) p q = absurd (not_finding q)
      go (finding x) p q =
          let r = questions_passed w n limit (length old) work marks (finding x) (above_finding 14 x) p in
          let f = found_of r.task n (rows_in (length old)) (limit - 1) x r.ended refl in
          record {
            task = r.task;
            read = r.read;
            some_literal = r.some_literal;
            set = x;
            call = p;
            first = f;
            counted = ap (λ (m : Made). m.rounds) (sym (same_finding _ m q)) ∙ ap (λ (x : Found). x.rounds) f.same;
          }

  made_ends :
      (t : Task) → read_task w ≡ finding t → (limit : ℕ) (m : Made) → (under w n old work marks limit).answer ≡ finding m
      → EndsIn t n m.rounds
  made_ends t read limit m e =
      let f = first_made limit m e in
      subst (λ (t : Task). EndsIn t n m.rounds) (same_finding f.task t (sym f.read ∙ read))
      (subst (EndsIn f.task n) (sym f.counted) (ends_in f.task n f.first.before f.first.first))

  made_bound : (limit : ℕ) (m : Made) → (under w n old work marks limit).answer ≡ finding m → m.rounds ≤ round_bound (get_or w 0 0) n
  made_bound limit m e =
      let f = first_made limit m e in
      rw (f.counted, ← (read_right w f.task f.read).atoms) (first_bound f.task n f.some_literal f.first.before f.first.first)

  -- out of rounds, so a clause fails in the last of them
  out_bound : (limit : ℕ) (r : Refusal) → r.number ≡ 15 → found_under limit ≡ refused r → limit ≤ possible_clauses (get_or w 0 0) n
  unfolding refuse
  out_bound limit r e p =
      let q = questions_passed w n limit (length old) work marks (refused r) high p in
      go q q.ended refl
    where
      high : OnlyAbove {A = Found} 14 (refused r)
      high s h = let k = ap (λ (r : Refusal). r.number) (same_refusal_lem r s h) in omega arith

      go :
          (q : QuestionsPassed w n limit (length old) marks (refused r)) {a : Answer Found}
          → EndOfRounds q.task n (rows_in (length old)) (limit - 1) a → a ≡ refused r → limit ≤ possible_clauses (get_or w 0 0) n
      go q (found i f small) h = absurd (not_finding (sym h))
      go q (out_of_rounds fails) h =
          let k = failing_bound q.task n q.some_literal (limit - 1) fails in
          let some = q.some_round in
          let same : suc (limit - 1) ≡ limit = omega arith in
          rw (← (read_right w q.task q.read).atoms, ← same) k
      go q out_of_rows h = let k = ap (λ (r : Refusal). r.number) (same_refusal_lem _ r h) in absurd (omega arith)

  made_enough : (limit : ℕ) → round_bound (get_or w 0 0) n ≤ limit → number_of (under w n old work marks limit).answer ≡ 15 → ⊥
  unfolding synthesis_call outcome made_of number_of round_bound
  made_enough limit enough e = go (found_under limit) refl e
    where
      go : (a : Answer Found) → found_under limit ≡ a → number_of (made_of a) ≡ 15 → ⊥
      go (finding x) p q = absurd (omega arith)
      go (refused r) p q = let k = out_bound limit r q p in absurd (omega arith)

  made_same :
      (limit other : ℕ) (l m : Made) → (under w n old work marks limit).answer ≡ finding l → (under w n old work marks other).answer ≡ finding m
      → under w n old work marks limit ≡ under w n old work marks other
  unfolding synthesis_call
  made_same limit other l m p q =
      let f = first_made limit l p in
      let g = first_made other m q in
      let t = same_finding g.task f.task (sym g.read ∙ f.read) in
      let first = subst (λ (t : Task). FirstPassing t n g.first.before) t g.first.first in
      let once = first_once f.task n f.first.before g.first.before f.first.first first in
      let set =
      f.first.same
      ∙ ap (λ r. record { clauses = set_at f.task n r; rounds = suc r }) once
      ∙ ap (λ (t : Task). record { clauses = set_at t n g.first.before; rounds = suc g.first.before }) (sym t)
      ∙ sym g.first.same in
      ap (λ a. outcome (made_of a) (buffer_after old a)) (f.call ∙ ap finding set ∙ sym g.call)

  calls_end : CallsEnd w n old work marks
  calls_end = record { ends = made_ends; bounded = made_bound; enough = made_enough; same = made_same }

pub limit_suffices : LimitSuffices
limit_suffices = record { forms = closed_forms; counted = counted; admitted = admitted; rounds = rounds_end; calls = calls_end }
