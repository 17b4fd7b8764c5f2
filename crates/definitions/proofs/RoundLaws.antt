-- The questions of a synthesis, and its rounds one after the other. Assumes nothing.
use mathlib.Core.Bool.{Bool, true, false, ◌&&◌}
use mathlib.Core.Logic.{◌⊎◌, inl, inr}
use mathlib.Core.Path.{◌≡◌, refl, sym, subst}
use mathlib.Core.List.{List}
use Prim.Native.Nat.{ℕ, zero, suc, ◌+◌, ◌-◌, ◌≤◌, ◌<◌}
use native.Mathlib.Nat.{zero-add}
use native.Mathlib.Numerals.{add-one}
use native.Mathlib.Omega.{arith}
use lib.Dec.{ltb, leb}
use borrow.Author.Tests.{ltb-true, ltb-false, leb-true}
use Rattle.definitions.specs.Lists.{all}
use Rattle.definitions.specs.Answer.{Answer, finding, refuse, ask, ask_at}
use Rattle.definitions.specs.Image.{Task, read_task}
use Rattle.definitions.specs.Clauses.{width}
use Rattle.definitions.specs.Synthesis.{first_set, tested, passes, next, set_at, Found, fits, rounds, rows_in, synthesis}
use Rattle.definitions.specs.Marks.{mark_bytes}
use Rattle.definitions.proofs.ListLaws.{decide, and_left, and_right}
use Rattle.definitions.proofs.AnswerLaws.{not_finding, same_finding, ask_of, up_ask, OnlyAbove, bind_above}
use Rattle.definitions.proofs.QuestionNumbers.{task_numbers}

-- ---- one round on C
module _ (t : Task) (n rows r : ℕ) (C : List (List ℕ)) where
  pub rounds_finished : (k : ℕ) → all passes (tested t C) ≡ true → rounds t n rows r k C ≡ finding (record { clauses = C; rounds = r })
  unfolding rounds
  rounds_finished zero h = rw (h, rounds)
  rounds_finished (suc k) h = rw (h, rounds)

  module _ (fails : all passes (tested t C) ≡ false) where
    pub rounds_over : (k : ℕ) → k ≡ 0 → rounds t n rows r k C ≡ refuse 15 0 0
    unfolding rounds
    rounds_over k e = rw (e, fails, rounds)

    pub rounds_full : (k k' : ℕ) → k ≡ suc k' → fits rows (next t n C) ≡ false → rounds t n rows r k C ≡ refuse 14 0 0
    unfolding rounds next
    rounds_full k k' e h = rw (e, fails, rounds, h)

    pub rounds_next :
        (k k' : ℕ) → k ≡ suc k' → fits rows (next t n C) ≡ true → rounds t n rows r k C ≡ rounds t n rows (r + 1) k' (next t n C)
    unfolding rounds next
    rounds_next k k' e h = rw (e, add-one, fails, rounds, h)

-- ---- the rounds from C0 on
module _ (t : Task) (n : ℕ) where
  -- no clause of Cr fails: round r + 1, which tests it, makes the finding. Sets are counted here, and not rounds, so that no r - 1 is needed
  unfoldable pub none_fails : ℕ → Bool
  none_fails r = all passes (tested t (set_at t n r))

  -- Cr is the first set of which none fails
  pub record FirstPassing (r : ℕ) : Type 0 where
    pub here : none_fails r ≡ true
    pub earlier : (i : ℕ) → i < r → none_fails i ≡ false

  -- one more set of which a clause fails
  pub one_more : (r : ℕ) → ((i : ℕ) → i < r → none_fails i ≡ false) → none_fails r ≡ false → (i : ℕ) → i < suc r → none_fails i ≡ false
  one_more r earlier h i l = go (decide (ltb i r))
    where
      go : (ltb i r ≡ true) ⊎ (ltb i r ≡ false) → none_fails i ≡ false
      go (inl e) = earlier i (ltb-true i r e)
      go (inr e) =
          let k = ltb-false i r e in
          let same : i ≡ r = omega arith in
          rw same h

  -- what the rounds come to where C0 to C(last) may be tested, in a buffer of so many rows
  pub data EndOfRounds (rows last : ℕ) : Answer Found → Type 0 where
    found :
        (r : ℕ) → FirstPassing r → fits rows (set_at t n r) ≡ true
        → EndOfRounds rows last (finding (record { clauses = set_at t n r; rounds = suc r }))
    out_of_rounds : none_fails last ≡ false → EndOfRounds rows last (refuse 15 0 0)
    out_of_rows : EndOfRounds rows last (refuse 14 0 0)

  module _ (rows : ℕ) where
    -- no clause of Cr fails, and one of each set before it does
    finished :
        (last k r : ℕ) → ((i : ℕ) → i < r → none_fails i ≡ false) → fits rows (set_at t n r) ≡ true → none_fails r ≡ true
        → EndOfRounds rows last (rounds t n rows (suc r) k (set_at t n r))
    unfolding none_fails
    finished last k r earlier small h = rw (rounds_finished t n rows (suc r) (set_at t n r) k h) (found r (record { here = h; earlier = earlier }) small)

    end_of_rounds :
        (k r : ℕ) → ((i : ℕ) → i < r → none_fails i ≡ false) → fits rows (set_at t n r) ≡ true
        → EndOfRounds rows (r + k) (rounds t n rows (suc r) k (set_at t n r))
    unfolding none_fails set_at
    end_of_rounds zero r earlier small = go (decide (none_fails r))
      where
        go : (none_fails r ≡ true) ⊎ (none_fails r ≡ false) → EndOfRounds rows (r + 0) (rounds t n rows (suc r) 0 (set_at t n r))
        go (inl h) = finished (r + 0) 0 r earlier small h
        go (inr h) =
            let same : r + 0 ≡ r = omega arith in
            rw (rounds_over t n rows (suc r) (set_at t n r) h 0 refl) (out_of_rounds (rw same h))
    end_of_rounds (suc k) r earlier small = go (decide (none_fails r)) (decide (fits rows (next t n C))) (λ p f. end_of_rounds k (suc r) p f)
      where
        C : List (List ℕ)
        C = set_at t n r

        On : Type 0
        On =
            ((i : ℕ) → i < suc r → none_fails i ≡ false) → fits rows (next t n C) ≡ true
            → EndOfRounds rows (suc r + k) (rounds t n rows (suc (suc r)) k (next t n C))

        go :
            (none_fails r ≡ true) ⊎ (none_fails r ≡ false) → (fits rows (next t n C) ≡ true) ⊎ (fits rows (next t n C) ≡ false) → On
            → EndOfRounds rows (r + suc k) (rounds t n rows (suc r) (suc k) C)
        go (inl h) f rec = finished (r + suc k) (suc k) r earlier small h
        go (inr h) (inl f) rec =
            let same : suc r + k ≡ r + suc k = omega arith in
            rw (rounds_next t n rows (suc r) C h (suc k) k refl f, add-one, ← same) (rec (one_more r earlier h) f)
        go (inr h) (inr f) rec = rw (rounds_full t n rows (suc r) C h (suc k) k refl f) out_of_rows

    pub end_from_first : (k : ℕ) → fits rows (first_set t) ≡ true → EndOfRounds rows k (rounds t n rows 1 k (first_set t))
    unfolding set_at
    end_from_first k small =
        subst (λ (last : ℕ). EndOfRounds rows last (rounds t n rows 1 k (first_set t))) (zero-add k)
        (end_of_rounds k 0 (λ i l. absurd (omega arith)) small)

  -- a finding is the first set of which none fails
  pub record FirstFound (rows : ℕ) (x : Found) : Type 0 where
    pub before : ℕ
    pub first : FirstPassing before
    pub small : fits rows (set_at t n before) ≡ true
    pub same : x ≡ record { clauses = set_at t n before; rounds = suc before }

  pub found_of : (rows last : ℕ) (x : Found) {a : Answer Found} → EndOfRounds rows last a → a ≡ finding x → FirstFound rows x
  unfolding refuse
  found_of rows last x (found r f small) e = record { before = r; first = f; small = small; same = sym (same_finding _ x e) }
  found_of rows last x (out_of_rounds h) e = absurd (not_finding e)
  found_of rows last x out_of_rows e = absurd (not_finding e)

-- ---- the questions before them
-- a is what the rounds come to
pub record QuestionsPassed (w : List ℕ) (n limit words marks : ℕ) (a : Answer Found) : Type 0 where
  pub task : Task
  pub read : read_task w ≡ finding task
  pub some_literal : 1 ≤ n
  pub narrow : n ≤ width
  pub some_round : 1 ≤ limit
  pub marked : leb (mark_bytes task.atoms) marks ≡ true
  pub ended : EndOfRounds task n (rows_in words) (limit - 1) a

-- every finding, and every refusal with a number above 14
pub questions_passed :
    (w : List ℕ) (n limit words work marks : ℕ) (a : Answer Found) → OnlyAbove 14 a → synthesis w n limit words work marks ≡ a
    → QuestionsPassed w n limit words marks a
unfolding synthesis ask
questions_passed w n limit words work marks a high e =
    let q1 = bind_above 14 (read_task w) _ a (λ r h. let k = task_numbers w r h in omega arith) high e in
    let t = q1.0 in
    let b12 = leb 1 n && leb n width && leb 1 limit && leb limit 65535 in
    let b13 = leb (mark_bytes t.atoms) marks && leb words work in
    let b14 = fits (rows_in words) (first_set t) in
    let q2 = bind_above 14 (ask_at 12 0 b12) _ a (up_ask 14 12 0 b12 (omega arith)) high q1.2 in
    let q3 = bind_above 14 (ask_at 13 0 b13) _ a (up_ask 14 13 0 b13 (omega arith)) high q2.2 in
    let q4 = bind_above 14 (ask_at 14 0 b14) _ a (up_ask 14 14 0 b14 (omega arith)) high q3.2 in
    let limits = and_left (leb 1 n && leb n width && leb 1 limit) (leb limit 65535) (ask_of 12 0 b12 q2.0 q2.1) in
    let literals = and_left (leb 1 n && leb n width) (leb 1 limit) limits in
    record {
      task = t;
      read = q1.1;
      some_literal = leb-true 1 n (and_left (leb 1 n) (leb n width) literals);
      narrow = leb-true n width (and_right (leb 1 n) (leb n width) literals);
      some_round = leb-true 1 limit (and_right (leb 1 n && leb n width) (leb 1 limit) limits);
      marked = and_left (leb (mark_bytes t.atoms) marks) (leb words work) (ask_of 13 0 b13 q3.0 q3.1);
      ended =
          subst (λ (a : Answer Found). EndOfRounds t n (rows_in words) (limit - 1) a) q4.2
          (end_from_first t n (rows_in words) (limit - 1) (ask_of 14 0 b14 q4.0 q4.1));
    }
