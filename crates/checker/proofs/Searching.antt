-- Laws of the search for the lowest clause that is not kept. Assumes nothing.
use mathlib.Core.Bool.{Bool, true, false, not}
use mathlib.Core.List.{List, [], ◌∷◌, map}
use mathlib.Core.Option.{none, some}
use mathlib.Core.Path.{◌≡◌, refl, sym, ◌∙◌, ap, subst}
use Prim.Native.Nat.{ℕ, zero, suc, ◌+◌, ◌≤◌, ◌<◌}
use native.Mathlib.Nat.{zero-add}
use native.Mathlib.Omega.{arith}
use native.Mathlib.Decide.{ℕ_discrete}
use lib.ListN.{length, get_or, take, length-map}
use lib.Seq.{get_or-take, length-take-le}
use Rattle.definitions.specs.Answer.{finding, refused, refuse}
use Rattle.definitions.specs.Image.{Operator, Task}
use Rattle.definitions.specs.Step.{operator_at, no_operator}
use Rattle.definitions.specs.Closure.{bit}
use Rattle.definitions.specs.Kept.{kept}
use Rattle.definitions.specs.Checker.{fails_under, ask_kept}
use Rattle.definitions.proofs.FirstFail.{first_none, first_some}
use Rattle.definitions.proofs.LowestPlaces.{none_fails_lem, fails_refused}
use Rattle.answer.specs.Answer.{refusal_at}
use Rattle.judge.specs.Judging.{fail_flags}
use Rattle.checker.specs.Search.{FirstFlag, Searched}

module _ (t : Task) (C : List (List ℕ)) where
  pub search_starts : Searched t C 0 (length C) 0
  search_starts = record { inside = omega arith; keeps = λ i k a b. absurd (omega arith); fails = λ h. absurd (omega arith) }

  module _ (low under : ℕ) (s : Searched t C (length t.operators) low under) where
    all_keep : (k : ℕ) → k < low → fails_under t C (get_or C k []) ≡ none
    unfolding fails_under operator_at
    all_keep k h = first_none (λ o. kept t.atoms C o (get_or C k [])) no_operator 0 t.operators (λ j l. s.keeps k j h l)

    pub search_kept : length C ≤ low → ask_kept t C 0 C ≡ finding tt
    search_kept h = none_fails_lem t C 0 C (λ k l. all_keep k (omega arith))

    pub search_failed : low < length C → ask_kept t C 0 C ≡ refused (refusal_at 11 low under)
    unfolding refuse
    search_failed h =
        fails_refused t C 0 C low under (record { inside = h; before = all_keep; here = s.fails h }) ∙ ap (λ n. refuse 11 n under) (zero-add low)

  -- one operator more: the flags of the clauses below `low`, and the first of them
  module _
      (j low under : ℕ) (s : Searched t C j low under) (i : ℕ) (flags : List ℕ)
      (judged : flags ≡ fail_flags t.atoms C (operator_at t j) (take low C)) (first : FirstFlag flags i) where
    flags_length : length flags ≡ low
    unfolding fail_flags
    flags_length = ap length judged ∙ length-map (take low C) (λ f. bit (not (kept t.atoms C (operator_at t j) f))) ∙ length-take-le low C s.inside

    flag_at : (k : ℕ) → k < low → get_or flags k 0 ≡ bit (not (kept t.atoms C (operator_at t j) (get_or C k [])))
    unfolding fail_flags
    flag_at k h =
        ap (λ l. get_or l k 0) judged
        ∙ go (take low C) k (subst (λ (z : ℕ). k < z) (sym (length-take-le low C s.inside)) h)
        ∙ ap (λ f. bit (not (kept t.atoms C (operator_at t j) f))) (get_or-take low C k [] h)
      where
        go :
            (D : List (List ℕ)) (k : ℕ) → k < length D
            → get_or (map (λ f. bit (not (kept t.atoms C (operator_at t j) f))) D) k 0 ≡ bit (not (kept t.atoms C (operator_at t j) (get_or D k [])))
        go [] k h = absurd (omega arith)
        go (f ∷ D) zero h = refl
        go (f ∷ D) (suc k) h = go D k (omega arith)

    kept_here : (k : ℕ) → k < i → k < low → kept t.atoms C (operator_at t j) (get_or C k []) ≡ true
    unfolding bit
    kept_here k h l = go (kept t.atoms C (operator_at t j) (get_or C k [])) refl
      where
        go : (b : Bool) → kept t.atoms C (operator_at t j) (get_or C k []) ≡ b → kept t.atoms C (operator_at t j) (get_or C k []) ≡ true
        go true e = e
        go false e = absurd (first.before k h (flag_at k l ∙ ap (λ b. bit (not b)) e))

    fails_here : i < low → kept t.atoms C (operator_at t j) (get_or C i []) ≡ false
    unfolding bit
    fails_here h = go (kept t.atoms C (operator_at t j) (get_or C i [])) refl
      where
        go : (b : Bool) → kept t.atoms C (operator_at t j) (get_or C i []) ≡ b → kept t.atoms C (operator_at t j) (get_or C i []) ≡ false
        go false e = e
        go true e =
            let one : get_or flags i 0 ≡ 1 = first.flagged (subst (λ (z : ℕ). i < z) (sym flags_length) h) in
            let nil : get_or flags i 0 ≡ 0 = flag_at i h ∙ ap (λ b. bit (not b)) e in
            absurd (omega arith)

    keeps_more :
        (low' : ℕ) → low' ≤ low → low' ≤ i → (k m : ℕ) → k < low' → m < j + 1
        → kept t.atoms C (operator_at t m) (get_or C k []) ≡ true
    keeps_more low' a b k m h l = go (ℕ_discrete m j)
      where
        go : Dec (m ≡ j) → kept t.atoms C (operator_at t m) (get_or C k []) ≡ true
        go (yes e) = rw e (kept_here k (omega arith) (omega arith))
        go (no ne) = s.keeps k m (omega arith) (omega arith)

    -- no clause fails
    pub search_same : low ≤ i → Searched t C (j + 1) low under
    search_same h = record { inside = s.inside; keeps = keeps_more low (omega arith) h; fails = s.fails }

    -- clause i fails, and the operators before keep it
    pub search_lower : j < length t.operators → i < low → Searched t C (j + 1) i j
    unfolding fails_under operator_at
    search_lower more h =
        record {
          inside = let a = s.inside in omega arith;
          keeps = keeps_more i (omega arith) (omega arith);
          fails =
              λ _. first_some (λ o. kept t.atoms C o (get_or C i [])) no_operator 0 t.operators j
              (record { inside = more; before = λ k l. s.keeps i k h l; fails = fails_here h })
              ∙ ap some (zero-add j);
        }

-- the first flag, where a flag for each of the first `low` clauses is lent
pub first_lent :
    (C D : List (List ℕ)) (atoms low i : ℕ) (o : Operator) (flags : List ℕ) → low ≤ length flags
    → FirstFlag (fail_flags atoms C o (take (length (take low flags)) D)) i → FirstFlag (fail_flags atoms C o (take low D)) i
first_lent C D atoms low i o flags room first =
    subst (λ (k : ℕ). FirstFlag (fail_flags atoms C o (take k D)) i) (length-take-le low flags room) first

-- one operator more, over so many atoms
module _
    (t : Task) (C : List (List ℕ)) (atoms j low under i : ℕ) (counted : atoms ≡ t.atoms) (s : Searched t C j low under)
    (first : FirstFlag (fail_flags atoms C (operator_at t j) (take low C)) i) where
  first' : FirstFlag (fail_flags t.atoms C (operator_at t j) (take low C)) i
  first' = subst (λ (N : ℕ). FirstFlag (fail_flags N C (operator_at t j) (take low C)) i) counted first

  pub operator_same : low ≤ i → Searched t C (j + 1) low under
  operator_same h = search_same t C j low under s i (fail_flags t.atoms C (operator_at t j) (take low C)) refl first' h

  pub operator_lower : j < length t.operators → i < low → Searched t C (j + 1) i j
  operator_lower more h = search_lower t C j low under s i (fail_flags t.atoms C (operator_at t j) (take low C)) refl first' more h

pub search_begins : (t : Task) (C : List (List ℕ)) (low : ℕ) → low ≡ length C → Searched t C 0 low 0
search_begins t C low h = subst (λ (k : ℕ). Searched t C 0 k 0) (sym h) (search_starts t C)

-- all operators are judged
pub search_ends :
    (t : Task) (C : List (List ℕ)) (j low under : ℕ) → length t.operators ≤ j → Searched t C j low under
    → Searched t C (length t.operators) low under
search_ends t C j low under h s = record { inside = s.inside; keeps = λ i k a b. s.keeps i k a (omega arith); fails = s.fails }
