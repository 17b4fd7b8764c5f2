-- The rule before "An add beats a delete" (document 02), and that nothing changed for an operator whose rows do not both add and delete an atom.
-- The old definitions stand here for these theorems only. What the request left as it was they share with the new ones: the state after a step
-- (`result`), what stays true (`stays_true`), and of a re-encoded step the state and question 22 (`fdr_after`, `none_there`). Assumes nothing.
use mathlib.Core.Bool.{Bool, true, false, not, cond, ◌&&◌, ◌||◌, and-true, and-false, or-false}
use mathlib.Core.Logic.{◌⊎◌, inl, inr}
use mathlib.Core.Path.{◌≡◌, refl, sym, ◌∙◌, ap, ap₂, subst}
use mathlib.Core.List.{List, ◌++◌, map, Memᴰ}
use Prim.Native.Nat.{ℕ}
use lib.Dec.{eqb, ltb}
use lib.ListN.{length, get_or}
use borrow.Author.Tests.{eqb-true, not-true}
use Rattle.definitions.specs.Lists.{any, all, keep, below, member}
use Rattle.definitions.specs.Answer.{Answer, finding, ask, ask_at, ◌>>=◌}
use Rattle.definitions.specs.Literal.{positive, complement, all_true}
use Rattle.definitions.specs.Image.{Row, Operator, Task}
use Rattle.definitions.specs.Step.{effects, applicable, result, operator_at, step}
use Rattle.definitions.specs.Closure.{closure, contradictory}
use Rattle.definitions.specs.Kept.{rows_with, all_in, surely_fires, added_again, never_fires, made_true, stays_true, guaranteed, kept_case, kept}
use Rattle.definitions.specs.Fdr.{FdrRow, FdrOperator, FdrTask, fdr_all_true}
use Rattle.definitions.specs.FdrStep.{fdr_fired, is_set, clash, fdr_conflict, fdr_after, none_there, no_fdr_operator, fdr_step}
use Rattle.definitions.proofs.ListLaws.{decide, refuted, never, or_right, any_of, any_in, all_of, any_agree, all_agree, keep_of, map_in, member_in}
use Rattle.definitions.proofs.StepLaws.{fired_of}

-- ---- the old rule
-- some atom is both added and deleted
unfoldable pub added_and_deleted : List ℕ → Bool
added_and_deleted es = any (λ e. member (complement e) es) es

-- questions 19 to 21, and the step: an atom both added and deleted by fired rows was refused
unfoldable pub step_before : Task → List ℕ → ℕ → Answer (List ℕ)
step_before t s i =
    let o = operator_at t i in
    do
      _ ← ask 19 (ltb i (length t.operators))
      _ ← ask 20 (all_true s o.precondition)
      _ ← ask 21 (not (added_and_deleted (effects s o)))
      finding (result s o)

module _ (N : ℕ) (C : List (List ℕ)) where
  -- m was made true by any row with its conditions in K, or stays true
  unfoldable pub guaranteed_before : Operator → List ℕ → List ℕ → ℕ → Bool
  guaranteed_before o ls K m = let t = stays_true N C o ls K m in surely_fires o K m || t

  unfoldable pub kept_case_before : Operator → List ℕ → ℕ → Row → Bool
  kept_case_before o f l r =
      let ls = o.precondition ++ r.conditions in
      let K = closure N C ls in
      let others = keep (λ m. not (eqb m l)) f in
      let made = any (surely_fires o K) others in
      let stays = any (stays_true N C o ls K) others in
      contradictory N K || made || stays

  unfoldable pub kept_before : Operator → List ℕ → Bool
  kept_before o f =
      let cases = all (λ l. all (kept_case_before o f l) (rows_with o (complement l))) f in
      contradictory N (closure N C o.precondition) || cases

-- two rows in conflict: two sets of one variable with different values, and also a set and a clear of one variable and value
unfoldable pub clash_before : FdrRow → FdrRow → Bool
clash_before r q =
    eqb r.variable q.variable
    && is_set r
    && cond (is_set q) (not (eqb r.value q.value)) (eqb r.value q.value)

-- questions 19 to 22, and the re-encoded step
unfoldable pub fdr_step_before : FdrTask → List ℕ → ℕ → Answer (List ℕ)
fdr_step_before t s i =
    let o = get_or t.operators i no_fdr_operator in
    let rs = fdr_fired s o in
    do
      _ ← ask 19 (ltb i (length t.operators))
      _ ← ask 20 (fdr_all_true s o.precondition)
      _ ← ask 21 (not (any (λ r. any (clash_before r) rs) rs))
      _ ← ask 22 (none_there t s rs)
      finding (map (fdr_after t s rs) (below (length t.domains)))

-- ---- an operator none of whose atoms is both added and deleted by its rows
unfoldable pub is_apart : Operator → Bool
is_apart o = not (added_and_deleted (map (λ r. r.effect) o.rows))

module _ (o : Operator) (apart : is_apart o ≡ true) where
  -- no two of its rows have complements for effects
  no_two : {r q : Row} → Memᴰ r o.rows → Memᴰ q o.rows → q.effect ≡ complement r.effect → ⊥
  unfolding is_apart added_and_deleted
  no_two {r} {q} mr mq h =
      never
      (any_in (λ e. member (complement e) es) (map_in (λ r. r.effect) mr)
      (subst (λ (z : ℕ). member z es ≡ true) h (member_in (map_in (λ r. r.effect) mq))))
      (not-true (any (λ e. member (complement e) es) es) apart)
    where
      es : List ℕ
      es = map (λ r. r.effect) o.rows

  -- no fired effects are in conflict
  fired_apart : (s : List ℕ) → added_and_deleted (effects s o) ≡ false
  unfolding added_and_deleted
  fired_apart s =
      refuted
      (λ h.
      let w = any_of (λ e. member (complement e) (effects s o)) (effects s o) h in
      let r = fired_of s o w.it (member_in w.mem) in
      let q = fired_of s o (complement w.it) w.passes in
      no_two r.mem q.mem (sym q.same ∙ ap complement r.same))

  -- where a row with effect m may fire, there is none with its complement
  none_with : (K : List ℕ) (m : ℕ) → surely_fires o K m ≡ true → {q : Row} → Memᴰ q (rows_with o (complement m)) → ⊥
  unfolding surely_fires rows_with
  none_with K m h {q} mq =
      let w = any_of (λ r. all_in K r.conditions) (keep (λ r. eqb r.effect m) o.rows) h in
      let r = keep_of (λ r. eqb r.effect m) o.rows w.mem in
      let k = keep_of (λ r. eqb r.effect (complement m)) o.rows mq in
      no_two r.0 k.0 (eqb-true q.effect (complement m) k.1 ∙ ap complement (sym (eqb-true w.it.effect m r.1)))

-- the step is that of the old rule
step_same : (t : Task) (s : List ℕ) (i : ℕ) → is_apart (operator_at t i) ≡ true → step t s i ≡ step_before t s i
unfolding step step_before applicable ask ask_at ◌>>=◌
step_same t s i apart = rw (fired_apart (operator_at t i) apart s, step_before)

module _ (N : ℕ) (C : List (List ℕ)) (o : Operator) (apart : is_apart o ≡ true) where
  made_same : (ls K : List ℕ) (m : ℕ) → made_true N C o ls K m ≡ surely_fires o K m
  unfolding made_true never_fires
  made_same ls K m = go (decide (surely_fires o K m))
    where
      alone : Bool
      alone = all (λ r. contradictory N (closure N C (ls ++ r.conditions))) (rows_with o (complement m))

      go : (surely_fires o K m ≡ true) ⊎ (surely_fires o K m ≡ false) → (surely_fires o K m && (positive m || alone)) ≡ surely_fires o K m
      go (inl h) =
          let none = all_of (λ r. contradictory N (closure N C (ls ++ r.conditions))) (rows_with o (complement m))
          (λ q mq. absurd (none_with o apart K m h mq)) in
          ap (λ b. surely_fires o K m && b) (or_right (positive m) none) ∙ and-true (surely_fires o K m)
      go (inr h) = rw h

  -- what is guaranteed is that of the old rule
  guaranteed_same : (ls K : List ℕ) (m : ℕ) → guaranteed N C o ls K m ≡ guaranteed_before N C o ls K m
  unfolding guaranteed guaranteed_before
  guaranteed_same ls K m = ap (λ b. b || stays_true N C o ls K m) (made_same ls K m)

  case_same : (f : List ℕ) (l : ℕ) (r : Row) → Memᴰ r (rows_with o (complement l)) → kept_case N C o f l r ≡ kept_case_before N C o f l r
  unfolding kept_case kept_case_before added_again
  case_same f l r m =
      ap₂ (λ a b. ((contradictory N K || a) || b) || any (stays_true N C o ls K) others) (go (decide (surely_fires o K l)))
      (any_agree (made_true N C o ls K) (surely_fires o K) others (λ k i. made_same ls K k))
      ∙ ap (λ b. (b || any (surely_fires o K) others) || any (stays_true N C o ls K) others) (or-false (contradictory N K))
    where
      ls : List ℕ
      ls = o.precondition ++ r.conditions

      K : List ℕ
      K = closure N C ls

      others : List ℕ
      others = keep (λ m. not (eqb m l)) f

      go : (surely_fires o K l ≡ true) ⊎ (surely_fires o K l ≡ false) → (positive l && surely_fires o K l) ≡ false
      go (inl h) = absurd (none_with o apart K l h m)
      go (inr h) = ap (λ b. positive l && b) h ∙ and-false (positive l)

  -- a clause is kept as by the old rule
  kept_same : (f : List ℕ) → kept N C o f ≡ kept_before N C o f
  unfolding kept kept_before
  kept_same f =
      ap (λ b. contradictory N (closure N C o.precondition) || b)
      (all_agree (λ l. all (kept_case N C o f l) (rows_with o (complement l))) (λ l. all (kept_case_before N C o f l) (rows_with o (complement l))) f
      (λ l i. all_agree (kept_case N C o f l) (kept_case_before N C o f l) (rows_with o (complement l)) (λ r m. case_same f l r m)))

-- ---- a re-encoded operator none of whose values is both set and cleared by its rows
unfoldable pub set_and_cleared : FdrRow → FdrRow → Bool
set_and_cleared r q = is_set r && not (is_set q) && eqb r.variable q.variable && eqb r.value q.value

unfoldable pub is_fdr_apart : FdrOperator → Bool
is_fdr_apart o = not (any (λ r. any (set_and_cleared r) o.rows) o.rows)

module _ (s : List ℕ) (o : FdrOperator) (apart : is_fdr_apart o ≡ true) where
  clash_same : (r q : FdrRow) → Memᴰ r o.rows → Memᴰ q o.rows → clash r q ≡ clash_before r q
  unfolding is_fdr_apart set_and_cleared clash clash_before
  clash_same r q mr mq = go (is_set r) (is_set q) (eqb r.variable q.variable) (eqb r.value q.value) (refuted apart_rows)
    where
      apart_rows : set_and_cleared r q ≡ true → ⊥
      apart_rows h =
          never (any_in (λ r. any (set_and_cleared r) o.rows) mr (any_in (set_and_cleared r) mq h))
          (not-true (any (λ r. any (set_and_cleared r) o.rows) o.rows) apart)

      go : (a b v x : Bool) → (a && not b && v && x) ≡ false → (a && b && v && not x) ≡ (v && a && cond b (not x) x)
      go true true true x h = refl
      go true true false x h = refl
      go true false true x h = sym h
      go true false false x h = refl
      go false b true x h = refl
      go false b false x h = refl

  conflict_same : fdr_conflict (fdr_fired s o) ≡ any (λ r. any (clash_before r) (fdr_fired s o)) (fdr_fired s o)
  unfolding fdr_conflict fdr_fired
  conflict_same =
      any_agree (λ r. any (clash r) F) (λ r. any (clash_before r) F) F
      (λ r mr. any_agree (clash r) (clash_before r) F (λ q mq. clash_same r q (inside mr) (inside mq)))
    where
      F : List FdrRow
      F = keep (λ r. fdr_all_true s r.conditions) o.rows

      inside : {r : FdrRow} → Memᴰ r F → Memᴰ r o.rows
      inside m = (keep_of (λ r. fdr_all_true s r.conditions) o.rows m).0

-- the re-encoded step is that of the old rule
fdr_step_same :
    (t : FdrTask) (s : List ℕ) (i : ℕ) → is_fdr_apart (get_or t.operators i no_fdr_operator) ≡ true → fdr_step t s i ≡ fdr_step_before t s i
unfolding fdr_step fdr_step_before ask ask_at ◌>>=◌
fdr_step_same t s i apart = rw (conflict_same s (get_or t.operators i no_fdr_operator) apart, fdr_step)

-- for users of tasks made before: what did not change
pub record Unchanged : Type 0 where
  pub same_step : (t : Task) (s : List ℕ) (i : ℕ) → is_apart (operator_at t i) ≡ true → step t s i ≡ step_before t s i
  pub same_guaranteed :
      (N : ℕ) (C : List (List ℕ)) (o : Operator) → is_apart o ≡ true
      → (ls K : List ℕ) (m : ℕ) → guaranteed N C o ls K m ≡ guaranteed_before N C o ls K m
  pub same_kept : (N : ℕ) (C : List (List ℕ)) (o : Operator) → is_apart o ≡ true → (f : List ℕ) → kept N C o f ≡ kept_before N C o f
  pub same_fdr_step :
      (t : FdrTask) (s : List ℕ) (i : ℕ) → is_fdr_apart (get_or t.operators i no_fdr_operator) ≡ true → fdr_step t s i ≡ fdr_step_before t s i

pub unchanged : Unchanged
unchanged = record { same_step = step_same; same_guaranteed = guaranteed_same; same_kept = kept_same; same_fdr_step = fdr_step_same }
