-- A clause is kept exactly if no row violates it, and the flags of the guaranteed literals say whether a row does. Assumes nothing.
use mathlib.Core.Bool.{Bool, true, false, not, ◌&&◌, ◌||◌, and-false}
use mathlib.Core.Logic.{◌⊎◌, inl, inr}
use mathlib.Core.Path.{◌≡◌, refl, sym, ◌∙◌, ap, ap₂, subst}
use mathlib.Core.List.Memᴰ
use mathlib.Core.List.{List, [], ◌∷◌, ◌++◌, Memᴰ}
use Prim.Native.Nat.{ℕ, ◌*◌, ◌<◌}
use lib.Dec.{eqb}
use borrow.Author.Tests.{eqb-true, eq-eqb, not-true}
use Rattle.definitions.specs.Lists.{any, all, keep, member}
use Rattle.definitions.specs.Literal.{positive, complement, all_below}
use Rattle.definitions.specs.Image.{Row, Operator}
use Rattle.definitions.specs.Closure.{has, closure, contradictory}
use Rattle.definitions.specs.Kept.{rows_with, all_in, surely_fires, added_again, never_fires, made_true, stays_true, guaranteed, kept_case, kept}
use Rattle.definitions.proofs.ListLaws.{decide, refuted, never, or_cases, or_left, or_right, and_left, and_right, and_both, any_of, any_in, all_at}
use Rattle.definitions.proofs.ListLaws.{all_of, any_agree, keep_in, keep_of, member_of, member_in, Witness}
use Rattle.definitions.proofs.ClosureLeast.{closure_holds}
use Rattle.definitions.proofs.EncodeLaws.{same_bool_lem}
use Rattle.propagation.proofs.Sets.{complement_back}
use Rattle.judge.specs.Judging.{guaranteed_flags, lacks_flag, violates, some_violates}
use Rattle.judge.proofs.Firing.{closure_held}
use Rattle.judge.proofs.Guaranteed.{guaranteed_has}
use Rattle.definitions.proofs.LiteralLaws.{below_at}

any_either : {A : Type 0} (p q : A → Bool) (xs : List A) (c : Bool) → ((c || any p xs) || any q xs) ≡ (c || any (λ x. p x || q x) xs)
unfolding any
any_either p q [] true = refl
any_either p q [] false = refl
any_either p q (x ∷ xs) true = refl
any_either p q (x ∷ xs) false = go (p x) (q x) (any p xs) (any q xs) (any (λ x. p x || q x) xs) (any_either p q xs false)
  where
    go : (a b c d e : Bool) → (c || d) ≡ e → ((a || c) || (b || d)) ≡ ((a || b) || e)
    go true b c d e h = refl
    go false true true d e h = refl
    go false true false d e h = refl
    go false false c d e h = h

-- the test of a list that holds l is that of l or of the others
any_with : (p : ℕ → Bool) (l : ℕ) (f : List ℕ) → member l f ≡ true → any p f ≡ (p l || any p (keep (λ m. not (eqb m l)) f))
any_with p l f h = same_bool_lem (any p f) (p l || any p others) forth back
  where
    others : List ℕ
    others = keep (λ m. not (eqb m l)) f

    forth : any p f ≡ true → (p l || any p others) ≡ true
    forth e = go (any_of p f e)
      where
        go : Witness p f → (p l || any p others) ≡ true
        go w = at (decide (eqb w.it l))
          where
            at : (eqb w.it l ≡ true) ⊎ (eqb w.it l ≡ false) → (p l || any p others) ≡ true
            at (inl k) = or_left (any p others) (subst (λ (z : ℕ). p z ≡ true) (eqb-true w.it l k) w.passes)
            at (inr k) = or_right (p l) (any_in p (keep_in (λ m. not (eqb m l)) w.mem (ap not k)) w.passes)

    back : (p l || any p others) ≡ true → any p f ≡ true
    back e = go (or_cases (p l) (any p others) e)
      where
        go : (p l ≡ true) ⊎ (any p others ≡ true) → any p f ≡ true
        go (inl k) = any_in p (member_of l f h) k
        go (inr k) =
            let w = any_of p others k in
            any_in p (keep_of (λ m. not (eqb m l)) f w.mem).0 w.passes

module _ (N : ℕ) (C : List (List ℕ)) (o : Operator) where
  -- the case of literal l and row r: K is contradictory, l is added again, or another literal of f is guaranteed
  case_guaranteed :
      (f : List ℕ) (l : ℕ) (r : Row) → let ls = o.precondition ++ r.conditions in
      let K = closure N C ls in
      kept_case N C o f l r ≡ ((contradictory N K || added_again o K l) || any (guaranteed N C o ls K) (keep (λ m. not (eqb m l)) f))
  unfolding kept_case guaranteed
  case_guaranteed f l r =
      let ls = o.precondition ++ r.conditions in
      let K = closure N C ls in
      any_either (made_true N C o ls K) (stays_true N C o ls K) (keep (λ m. not (eqb m l)) f) (contradictory N K || added_again o K l)

  -- a row whose K is contradictory violates no clause
  pub violates_none : (r : Row) (f : List ℕ) → contradictory N (closure N C (o.precondition ++ r.conditions)) ≡ true → violates N C o r f ≡ false
  unfolding violates
  violates_none r f h =
      ap (λ c. member (complement r.effect) f && not c) (case_guaranteed f (complement r.effect) r ∙ or_left _ (or_left _ h))
      ∙ and-false (member (complement r.effect) f)

  -- nor one whose effect is the complement of no literal of it
  pub violates_passed : (r : Row) (f : List ℕ) → member (complement r.effect) f ≡ false → violates N C o r f ≡ false
  unfolding violates
  violates_passed r f h = rw h

  -- a row of the operator, its conditions among the literals, whose K is not contradictory
  module _
      (within : (f : List ℕ) → Memᴰ f C → (l : ℕ) → Memᴰ l f → l < 2 * N) (r : Row) (there : Memᴰ r o.rows)
      (low : all_below (2 * N) r.conditions ≡ true) (closed : contradictory N (closure N C (o.precondition ++ r.conditions)) ≡ false) where
    abbrev ls : List ℕ
    ls = o.precondition ++ r.conditions

    abbrev K : List ℕ
    K = closure N C ls

    -- the literal that the row makes false
    abbrev l : ℕ
    l = complement r.effect

    -- the row can fire
    may_fire : never_fires N C o ls (complement l) ≡ false
    unfolding never_fires rows_with all_in
    may_fire =
        refuted
        (λ h.
        let bad = all_at (λ q. contradictory N (closure N C (ls ++ q.conditions))) h in_rows in
        never bad (ap (contradictory N) (closure_held N C within ls r.conditions held) ∙ closed))
      where
        held : all_in K r.conditions ≡ true
        held =
            all_of (has K) r.conditions
            (λ m k.
            closure_holds N C ls m (below_at (2 * N) r.conditions low m k)
            (member_in (Memᴰ.append_right o.precondition k)))

        in_rows : Memᴰ r (keep (λ q. eqb q.effect (complement l)) o.rows)
        in_rows = keep_in (λ q. eqb q.effect (complement l)) there (eq-eqb r.effect (complement l) (sym (complement_back r.effect)))

    -- l is guaranteed only if it is added again
    own : guaranteed N C o ls K l ≡ added_again o K l
    unfolding guaranteed made_true stays_true added_again
    own = rw may_fire (go (positive l) (surely_fires o K l) (has K l))
      where
        go : (p f k : Bool) → ((f && (p || false)) || (k && false)) ≡ (p && f)
        go true true k = refl
        go true false true = refl
        go true false false = refl
        go false true true = refl
        go false true false = refl
        go false false true = refl
        go false false false = refl

    -- it violates the clauses that hold l and no literal that is guaranteed
    pub violates_lacking : (f : List ℕ) → all_below (2 * N) f ≡ true → violates N C o r f ≡ lacks_flag l (guaranteed_flags N C o ls) f
    unfolding violates lacks_flag
    violates_lacking f low-f = go (decide (member l f))
      where
        flagged : Bool
        flagged = any (has (guaranteed_flags N C o ls)) f

        passes : member l f ≡ true → kept_case N C o f l r ≡ flagged
        passes h =
            case_guaranteed f l r
            ∙ ap₂ (λ b c. (b || c) || any (guaranteed N C o ls K) (keep (λ m. not (eqb m l)) f)) closed (sym own)
            ∙ sym (any_with (guaranteed N C o ls K) l f h)
            ∙ any_agree (guaranteed N C o ls K) (has (guaranteed_flags N C o ls)) f
            (λ m i. sym (guaranteed_has N C o ls m (below_at (2 * N) f low-f m i)))

        go : (member l f ≡ true) ⊎ (member l f ≡ false) → (member l f && not (kept_case N C o f l r)) ≡ (member l f && not flagged)
        go (inl h) = ap (λ c. member l f && not c) (passes h)
        go (inr h) = rw h

  -- the cases of each literal and each row with its complement, row by row
  cases_rows : (f : List ℕ) → all (λ l. all (kept_case N C o f l) (rows_with o (complement l))) f ≡ not (some_violates N C o o.rows f)
  unfolding some_violates violates rows_with
  cases_rows f = same_bool_lem cases (not some) forth back
    where
      cases : Bool
      cases = all (λ l. all (kept_case N C o f l) (rows_with o (complement l))) f

      some : Bool
      some = any (λ r. violates N C o r f) o.rows

      forth : cases ≡ true → not some ≡ true
      forth h = go (decide some)
        where
          go : (some ≡ true) ⊎ (some ≡ false) → not some ≡ true
          go (inl e) =
              let w = any_of (λ r. violates N C o r f) o.rows e in
              let l = complement w.it.effect in
              let m = and_left (member l f) (not (kept_case N C o f l w.it)) w.passes in
              let in_rows =
              keep_in (λ r. eqb r.effect (complement l)) w.mem
              (eq-eqb w.it.effect (complement l) (sym (complement_back w.it.effect))) in
              let good = all_at (kept_case N C o f l) (all_at (λ l. all (kept_case N C o f l) (rows_with o (complement l))) h (member_of l f m)) in_rows in
              never good (not-true (kept_case N C o f l w.it) (and_right (member l f) (not (kept_case N C o f l w.it)) w.passes))
          go (inr e) = ap not e

      back : not some ≡ true → cases ≡ true
      back h =
          all_of (λ l. all (kept_case N C o f l) (rows_with o (complement l))) f
          (λ l ml.
          all_of (kept_case N C o f l) (rows_with o (complement l))
          (λ r mr. go l ml r (keep_of (λ r. eqb r.effect (complement l)) o.rows mr) (decide (kept_case N C o f l r))))
        where
          go :
              (l : ℕ) → Memᴰ l f → (r : Row) → Memᴰ r o.rows × (eqb r.effect (complement l) ≡ true)
              → (kept_case N C o f l r ≡ true) ⊎ (kept_case N C o f l r ≡ false) → kept_case N C o f l r ≡ true
          go l ml r k (inl e) = e
          go l ml r k (inr e) =
              let same : complement r.effect ≡ l = ap complement (eqb-true r.effect (complement l) k.1) ∙ complement_back l in
              let violated : violates N C o r f ≡ true =
              subst (λ (z : ℕ). (member z f && not (kept_case N C o f z r)) ≡ true) (sym same) (and_both (member_in ml) (ap not e)) in
              never (any_in (λ r. violates N C o r f) k.0 violated) (not-true some h)

  -- all clauses are kept where the closure of C and the precondition is contradictory
  pub kept_contradictory : (f : List ℕ) → contradictory N (closure N C o.precondition) ≡ true → kept N C o f ≡ true
  unfolding kept
  kept_contradictory f h = or_left _ h

  -- otherwise those that no row violates
  pub kept_rows : (f : List ℕ) → contradictory N (closure N C o.precondition) ≡ false → not (kept N C o f) ≡ some_violates N C o o.rows f
  unfolding kept
  kept_rows f h =
      ap (λ c. not (c || all (λ l. all (kept_case N C o f l) (rows_with o (complement l))) f)) h
      ∙ ap not (cases_rows f)
      ∙ go (some_violates N C o o.rows f)
    where
      go : (b : Bool) → not (not b) ≡ b
      go true = refl
      go false = refl
