-- What a set keeps under an operator, a larger set over more atoms keeps, with all literals shifted. Assumes nothing.
use mathlib.Core.Bool.{Bool, true, not, ◌&&◌, ◌||◌}
use mathlib.Core.Logic.{◌⊎◌, inl, inr}
use mathlib.Core.Path.{◌≡◌, sym, ◌∙◌, ap, ap₂, subst}
use mathlib.Core.List.Memᴰ
use mathlib.Core.List.{List, ◌++◌, map, Memᴰ}
use Prim.Native.Nat.{ℕ, ◌+◌, ◌*◌, ◌≤◌, ◌<◌}
use native.Mathlib.Omega.{arith}
use lib.Dec.{eqb}
use lib.ListN.{get_or, drop, replicate, length-replicate}
use lib.Seq.{get_or-drop, drop_at, get_or-append-add}
use borrow.Author.Tests.{eqb-true}
use Rattle.definitions.specs.Lists.{any, all, keep, below, member}
use Rattle.definitions.specs.Literal.{positive, complement, all_below}
use Rattle.definitions.specs.Image.{Row, Operator, operator_right}
use Rattle.definitions.specs.Closure.{has, forces, closure, contradictory}
use Rattle.definitions.specs.Kept.{rows_with, all_in, surely_fires, added_again, never_fires, made_true, stays_true, kept_case, kept}
use Rattle.definitions.specs.Join.{shifted, shifted_row, shifted_operator, shifted_clauses}
use Rattle.definitions.proofs.ListLaws.{or_cases, or_left, or_right, and_left, and_right, and_both, any_of, any_in, all_at, all_of, keep_in, keep_of}
use Rattle.definitions.proofs.ListLaws.{map_in, map_of, member_in, member_of, all_map, all_agree, in_left, in_right}
use Rattle.definitions.proofs.SetLaws.{below_of}
use Rattle.definitions.proofs.Walks.{below_in}
use Rattle.definitions.proofs.EncodeLaws.{same_bool_lem, keep_map}
use Rattle.definitions.proofs.ReadLaws.{pre_low, conditions_low}
use Rattle.definitions.proofs.ClosureLeast.{closure_closed, closure_holds, closure_least}
use Rattle.definitions.proofs.JoinLaws.{eqb_shift, member_shift, shifted_in, shifted_of, positive_shift, complement_shift, shifted_zero, operator_zero}
use Rattle.definitions.proofs.LiteralLaws.{below_at, below_all}

-- ---- a set of literals from literal 2n on
has_drop : (k : ℕ) (S : List ℕ) (l : ℕ) → has (drop k S) l ≡ has S (k + l)
unfolding has
has_drop k S l = ap (λ x. eqb x 1) (get_or-drop k S l 0)

forces_shift : (n : ℕ) (S : List ℕ) (l : ℕ) (f : List ℕ) → forces S (2 * n + l) (shifted (2 * n) f) ≡ forces (drop (2 * n) S) l f
unfolding forces shifted
forces_shift n S l f =
    ap₂ (λ a b. a && b) (member_shift (2 * n) l f)
    (all_map (λ m. eqb m (2 * n + l) || has S (complement m)) (λ x. 2 * n + x) f
    ∙ all_agree (λ m. eqb (2 * n + m) (2 * n + l) || has S (complement (2 * n + m))) (λ m. eqb m l || has (drop (2 * n) S) (complement m)) f
    (λ m mm. ap₂ (λ a b. a || b) (eqb_shift (2 * n) m l) (ap (has S) (complement_shift n m) ∙ sym (has_drop (2 * n) S (complement m)))))

forced_in : (S : List ℕ) (l : ℕ) (f : List ℕ) → forces S l f ≡ true → Memᴰ l f
unfolding forces
forced_in S l f e = member_of l f (and_left (member l f) (all (λ m. eqb m l || has S (complement m)) f) e)

both_low : (k : ℕ) (a b : List ℕ) → all_below k a ≡ true → all_below k b ≡ true → all_below k (a ++ b) ≡ true
both_low k a b p q = below_all k (a ++ b) (λ x m. go x (Memᴰ.append_cases a m))
  where
    go : (x : ℕ) → Memᴰ x a ⊎ Memᴰ x b → x < k
    go x (inl m) = below_at k a p x m
    go x (inr m) = below_at k b q x m

-- ms has the literals of ls, shifted
abbrev pub Within : ℕ → List ℕ → List ℕ → Type 0
Within n ls ms = (l : ℕ) → Memᴰ l ls → Memᴰ (2 * n + l) ms

within_shifted : (n : ℕ) (ls : List ℕ) → Within n ls (shifted (2 * n) ls)
within_shifted n ls l m = shifted_in (2 * n) m

within_both : (n : ℕ) (a b c d : List ℕ) → Within n a c → Within n b d → Within n (a ++ b) (c ++ d)
within_both n a b c d p q l m = go (Memᴰ.append_cases a m)
  where
    go : Memᴰ l a ⊎ Memᴰ l b → Memᴰ (2 * n + l) (c ++ d)
    go (inl x) = in_left d (p l x)
    go (inr x) = in_right c (q l x)

pre_within : (n : ℕ) (o : Operator) → Within n o.precondition (shifted_operator n o).precondition
unfolding shifted_operator
pre_within n o = within_shifted n o.precondition

-- clauses over N atoms
abbrev pub AllLow : ℕ → List (List ℕ) → Type 0
AllLow N C = (f : List ℕ) → Memᴰ f C → all_below (2 * N) f ≡ true

-- D has the clauses of C, shifted
abbrev pub Among : ℕ → List (List ℕ) → List (List ℕ) → Type 0
Among n C D = (f : List ℕ) → Memᴰ f C → Memᴰ (shifted (2 * n) f) D

among : (n : ℕ) (C : List (List ℕ)) → Among n C (shifted_clauses n C)
unfolding shifted_clauses
among n C f m = map_in (shifted (2 * n)) m

-- C over N atoms; D over K atoms has the clauses of C, shifted by n atoms
module _ (n N K : ℕ) (room : n + N ≤ K) (C D : List (List ℕ)) (low_c : AllLow N C) (there : Among n C D) where
  -- the closure is monotone in clauses and literals, and commutes with shifting
  pub closure_shift :
      (ls ms : List ℕ) → all_below (2 * N) ls ≡ true → Within n ls ms → (l : ℕ) → has (closure N C ls) l ≡ true
      → has (closure K D ms) (2 * n + l) ≡ true
  closure_shift ls ms low sub l e = sym (has_drop (2 * n) T l) ∙ closure_least N C ls (drop (2 * n) T) holds closed l e
    where
      T : List ℕ
      T = closure K D ms

      holds : (l : ℕ) → member l ls ≡ true → has (drop (2 * n) T) l ≡ true
      holds l e =
          let m = member_of l ls e in
          let h = below_at (2 * N) ls low l m in
          has_drop (2 * n) T l ∙ closure_holds K D ms (2 * n + l) (omega arith) (member_in (sub l m))

      closed : (f : List ℕ) → Memᴰ f C → (l : ℕ) → forces (drop (2 * n) T) l f ≡ true → has (drop (2 * n) T) l ≡ true
      closed f m l e =
          let h = below_at (2 * N) f (low_c f m) l (forced_in (drop (2 * n) T) l f e) in
          has_drop (2 * n) T l
          ∙ closure_closed K D ms (shifted (2 * n) f) (there f m) (2 * n + l) (omega arith) (forces_shift n T l f ∙ e)

  pub contradictory_shift :
      (ls ms : List ℕ) → all_below (2 * N) ls ≡ true → Within n ls ms → contradictory N (closure N C ls) ≡ true
      → contradictory K (closure K D ms) ≡ true
  unfolding contradictory
  contradictory_shift ls ms low sub e =
      let S = closure N C ls in
      let T = closure K D ms in
      let w = any_of (λ l. has S l && has S (complement l)) (below (2 * N)) e in
      let l = w.it in
      let h : l < 2 * N = below_of (2 * N) w.mem in
      let a : has T (2 * n + l) ≡ true = closure_shift ls ms low sub l (and_left (has S l) (has S (complement l)) w.passes) in
      let b : has T (2 * n + complement l) ≡ true = closure_shift ls ms low sub (complement l) (and_right (has S l) (has S (complement l)) w.passes) in
      any_in (λ l. has T l && has T (complement l)) (below_in (2 * K) (2 * n + l) (omega arith))
      (and_both a (ap (has T) (complement_shift n l) ∙ b))

  module _ (o : Operator) (right : operator_right N o ≡ true) where
    rows_shift : (l : ℕ) → rows_with (shifted_operator n o) (2 * n + l) ≡ map (shifted_row n) (rows_with o l)
    unfolding rows_with shifted_operator shifted_row
    rows_shift l =
        keep_map (λ r. eqb r.effect (2 * n + l)) (λ r. eqb r.effect l) (shifted_row n) o.rows (λ r m. eqb_shift (2 * n) r.effect l)

    -- the rows with the complement of a shifted literal are shifted rows
    against_shift : (l : ℕ) → rows_with (shifted_operator n o) (complement (2 * n + l)) ≡ map (shifted_row n) (rows_with o (complement l))
    against_shift l = ap (rows_with (shifted_operator n o)) (complement_shift n l) ∙ rows_shift (complement l)

    low_row : (l : ℕ) (r : Row) → Memᴰ r (rows_with o l) → all_below (2 * N) r.conditions ≡ true
    unfolding rows_with
    low_row l r m = all_at (λ r. all_below (2 * N) r.conditions) (conditions_low N o right) (keep_of (λ r. eqb r.effect l) o.rows m).0

    fires_shift :
        (S T : List ℕ) → ((l : ℕ) → has S l ≡ true → has T (2 * n + l) ≡ true) → (m : ℕ) → surely_fires o S m ≡ true
        → surely_fires (shifted_operator n o) T (2 * n + m) ≡ true
    unfolding surely_fires all_in shifted_row shifted
    fires_shift S T sub m e =
        let w = any_of (λ r. all_in S r.conditions) (rows_with o m) e in
        let r = w.it in
        subst (λ (rs : List Row). any (λ r. all_in T r.conditions) rs ≡ true) (sym (rows_shift m))
        (any_in (λ r. all_in T r.conditions) (map_in (shifted_row n) w.mem)
        (all_map (has T) (λ x. 2 * n + x) r.conditions
        ∙ all_of (λ x. has T (2 * n + x)) r.conditions (λ x m. sub x (all_at (has S) w.passes m))))

    again_shift :
        (S T : List ℕ) → ((l : ℕ) → has S l ≡ true → has T (2 * n + l) ≡ true) → (l : ℕ) → added_again o S l ≡ true
        → added_again (shifted_operator n o) T (2 * n + l) ≡ true
    unfolding added_again
    again_shift S T sub l e =
        and_both (positive_shift n l ∙ and_left (positive l) (surely_fires o S l) e)
        (fires_shift S T sub l (and_right (positive l) (surely_fires o S l) e))

    module _ (ls ms : List ℕ) (low : all_below (2 * N) ls ≡ true) (sub : Within n ls ms) where
      -- no row with the complement of m can fire
      never_shift :
          (m : ℕ) → never_fires N C o ls (complement m) ≡ true → never_fires K D (shifted_operator n o) ms (complement (2 * n + m)) ≡ true
      unfolding never_fires shifted_row
      never_shift m h =
          let test : Row → Bool = λ q. contradictory K (closure K D (ms ++ q.conditions)) in
          subst (λ (rs : List Row). all test rs ≡ true) (sym (against_shift m))
          (all_map test (shifted_row n) (rows_with o (complement m))
          ∙ all_of (λ q. test (shifted_row n q)) (rows_with o (complement m))
          (λ q mq.
          contradictory_shift (ls ++ q.conditions) (ms ++ shifted (2 * n) q.conditions)
          (both_low (2 * N) ls q.conditions low (low_row (complement m) q mq))
          (within_both n ls q.conditions ms (shifted (2 * n) q.conditions) sub (within_shifted n q.conditions))
          (all_at (λ q. contradictory N (closure N C (ls ++ q.conditions))) h mq)))

      stays_shift :
          (m : ℕ) → stays_true N C o ls (closure N C ls) m ≡ true
          → stays_true K D (shifted_operator n o) ms (closure K D ms) (2 * n + m) ≡ true
      unfolding stays_true
      stays_shift m e =
          let never = never_fires N C o ls (complement m) in
          and_both (closure_shift ls ms low sub m (and_left (has (closure N C ls) m) never e))
          (never_shift m (and_right (has (closure N C ls) m) never e))

      made_shift :
          (m : ℕ) → made_true N C o ls (closure N C ls) m ≡ true
          → made_true K D (shifted_operator n o) ms (closure K D ms) (2 * n + m) ≡ true
      unfolding made_true
      made_shift m e =
          and_both (fires_shift S T (closure_shift ls ms low sub) m (and_left (surely_fires o S m) (positive m || never) e))
          (go (or_cases (positive m) never (and_right (surely_fires o S m) (positive m || never) e)))
        where
          S : List ℕ
          S = closure N C ls

          T : List ℕ
          T = closure K D ms

          never : Bool
          never = never_fires N C o ls (complement m)

          never' : Bool
          never' = never_fires K D (shifted_operator n o) ms (complement (2 * n + m))

          go : (positive m ≡ true) ⊎ (never ≡ true) → (positive (2 * n + m) || never') ≡ true
          go (inl x) = or_left never' (positive_shift n m ∙ x)
          go (inr x) = or_right (positive (2 * n + m)) (never_shift m x)

    -- another literal of f, shifted
    other_shift :
        (f : List ℕ) (l m : ℕ) → Memᴰ m (keep (λ m. not (eqb m l)) f)
        → Memᴰ (2 * n + m) (keep (λ m. not (eqb m (2 * n + l))) (shifted (2 * n) f))
    other_shift f l m k =
        let q = keep_of (λ m. not (eqb m l)) f k in
        keep_in (λ m. not (eqb m (2 * n + l))) (shifted_in (2 * n) q.0) (ap not (eqb_shift (2 * n) m l) ∙ q.1)

    case_shift :
        (f : List ℕ) (l : ℕ) (r : Row) → all_below (2 * N) r.conditions ≡ true → kept_case N C o f l r ≡ true
        → kept_case K D (shifted_operator n o) (shifted (2 * n) f) (2 * n + l) (shifted_row n r) ≡ true
    unfolding kept_case shifted_operator shifted_row
    case_shift f l r lowr e =
        third (or_cases (contradictory N S || added_again o S l || any (made_true N C o ls S) others) (any (stays_true N C o ls S) others) e)
      where
        ls : List ℕ
        ls = o.precondition ++ r.conditions

        ms : List ℕ
        ms = shifted (2 * n) o.precondition ++ shifted (2 * n) r.conditions

        low : all_below (2 * N) ls ≡ true
        low = both_low (2 * N) o.precondition r.conditions (pre_low N o right) lowr

        sub : Within n ls ms
        sub =
            within_both n o.precondition r.conditions (shifted (2 * n) o.precondition) (shifted (2 * n) r.conditions)
            (within_shifted n o.precondition)
            (within_shifted n r.conditions)

        S : List ℕ
        S = closure N C ls

        T : List ℕ
        T = closure K D ms

        o' : Operator
        o' = shifted_operator n o

        others : List ℕ
        others = keep (λ m. not (eqb m l)) f

        others' : List ℕ
        others' = keep (λ m. not (eqb m (2 * n + l))) (shifted (2 * n) f)

        contra : Bool
        contra = contradictory K T

        again : Bool
        again = added_again o' T (2 * n + l)

        made : Bool
        made = any (made_true K D o' ms T) others'

        stays : Bool
        stays = any (stays_true K D o' ms T) others'

        first : (contradictory N S ≡ true) ⊎ (added_again o S l ≡ true) → (contra || again) ≡ true
        first (inl x) = or_left again (contradictory_shift ls ms low sub x)
        first (inr x) = or_right contra (again_shift S T (closure_shift ls ms low sub) l x)

        second : ((contradictory N S || added_again o S l) ≡ true) ⊎ (any (made_true N C o ls S) others ≡ true) → (contra || again || made) ≡ true
        second (inl x) = or_left made (first (or_cases (contradictory N S) (added_again o S l) x))
        second (inr x) =
            let w = any_of (made_true N C o ls S) others x in
            or_right (contra || again)
            (any_in (made_true K D o' ms T) (other_shift f l w.it w.mem) (made_shift ls ms low sub w.it w.passes))

        third :
            ((contradictory N S || added_again o S l || any (made_true N C o ls S) others) ≡ true) ⊎ (any (stays_true N C o ls S) others ≡ true)
            → (contra || again || made || stays) ≡ true
        third (inl x) = or_left stays (second (or_cases (contradictory N S || added_again o S l) (any (made_true N C o ls S) others) x))
        third (inr x) =
            let w = any_of (stays_true N C o ls S) others x in
            or_right (contra || again || made)
            (any_in (stays_true K D o' ms T) (other_shift f l w.it w.mem) (stays_shift ls ms low sub w.it w.passes))

    -- kept is monotone in the clause set, and commutes with shifting
    pub kept_shift : (f : List ℕ) → kept N C o f ≡ true → kept K D (shifted_operator n o) (shifted (2 * n) f) ≡ true
    unfolding kept
    kept_shift f e = go (or_cases (contradictory N (closure N C o.precondition)) (all (λ l. all (kept_case N C o f l) (rows_with o (complement l))) f) e)
      where
        o' : Operator
        o' = shifted_operator n o

        f' : List ℕ
        f' = shifted (2 * n) f

        cases : Bool
        cases = all (λ l. all (kept_case K D o' f' l) (rows_with o' (complement l))) f'

        one :
            all (λ l. all (kept_case N C o f l) (rows_with o (complement l))) f ≡ true → (l : ℕ) → Memᴰ l f
            → all (kept_case K D o' f' (2 * n + l)) (rows_with o' (complement (2 * n + l))) ≡ true
        one x l m =
            subst (λ (rs : List Row). all (kept_case K D o' f' (2 * n + l)) rs ≡ true) (sym (against_shift l))
            (all_map (kept_case K D o' f' (2 * n + l)) (shifted_row n) (rows_with o (complement l))
            ∙ all_of (λ r. kept_case K D o' f' (2 * n + l) (shifted_row n r)) (rows_with o (complement l))
            (λ r mr. case_shift f l r (low_row (complement l) r mr)
            (all_at (kept_case N C o f l) (all_at (λ l. all (kept_case N C o f l) (rows_with o (complement l))) x m) mr)))

        go :
            (contradictory N (closure N C o.precondition) ≡ true) ⊎ (all (λ l. all (kept_case N C o f l) (rows_with o (complement l))) f ≡ true)
            → (contradictory K (closure K D o'.precondition) || cases) ≡ true
        go (inl x) = or_left cases (contradictory_shift o.precondition o'.precondition (pre_low N o right) (pre_within n o) x)
        go (inr x) =
            or_right (contradictory K (closure K D o'.precondition))
            (all_of (λ l. all (kept_case K D o' f' l) (rows_with o' (complement l))) f'
            (λ y m. let s = shifted_of (2 * n) f m in
            subst (λ (z : ℕ). all (kept_case K D o' f' z) (rows_with o' (complement z)) ≡ true) (sym s.2) (one x s.0 s.1)))

-- a larger set over more atoms keeps what a set keeps
pub kept_more :
    (N K : ℕ) → N ≤ K → (C D : List (List ℕ)) → AllLow N C → ((f : List ℕ) → Memᴰ f C → Memᴰ f D)
    → (o : Operator) → operator_right N o ≡ true → (f : List ℕ) → kept N C o f ≡ true → kept K D o f ≡ true
kept_more N K room C D low_c there o right f e =
    subst (λ (g : List ℕ). kept K D o g ≡ true) (shifted_zero f)
    (subst (λ (q : Operator). kept K D q (shifted 0 f) ≡ true) (operator_zero o)
    (kept_shift 0 N K (omega arith) C D low_c (λ f m. subst (λ (g : List ℕ). Memᴰ g D) (sym (shifted_zero f)) (there f m)) o right f e))

-- an operator whose rows touch no literal of f keeps it
pub kept_untouched :
    (K : ℕ) (D : List (List ℕ)) (o : Operator) (f : List ℕ)
    → ((l : ℕ) → Memᴰ l f → (r : Row) → Memᴰ r o.rows → r.effect ≡ complement l → ⊥)
    → kept K D o f ≡ true
unfolding kept rows_with
kept_untouched K D o f apart =
    or_right (contradictory K (closure K D o.precondition))
    (all_of (λ l. all (kept_case K D o f l) (rows_with o (complement l))) f
    (λ l m. all_of (kept_case K D o f l) (rows_with o (complement l))
    (λ r mr. let q = keep_of (λ r. eqb r.effect (complement l)) o.rows mr in
    absurd (apart l m r q.0 (eqb-true r.effect (complement l) q.1)))))

-- ---- the closure laws by themselves
-- more clauses and literals, over more atoms, have no smaller closure
pub closure_monotone :
    (N K : ℕ) → N ≤ K → (C D : List (List ℕ)) → AllLow N C → ((f : List ℕ) → Memᴰ f C → Memᴰ f D)
    → (ls ms : List ℕ) → all_below (2 * N) ls ≡ true → ((l : ℕ) → Memᴰ l ls → Memᴰ l ms)
    → (l : ℕ) → has (closure N C ls) l ≡ true → has (closure K D ms) l ≡ true
closure_monotone N K room C D low_c there ls ms low sub l e =
    subst (λ (x : ℕ). has (closure K D ms) x ≡ true) (none_before l)
    (closure_shift 0 N K (omega arith) C D low_c
    (λ f m. subst (λ (g : List ℕ). Memᴰ g D) (sym (shifted_zero f)) (there f m))
    ls ms low
    (λ x m. subst (λ (y : ℕ). Memᴰ y ms) (sym (none_before x)) (sub x m))
    l e)
  where
    none_before : (x : ℕ) → 2 * 0 + x ≡ x
    none_before x = omega arith

-- the closure of shifted clauses and literals is the closure, shifted
module _ (n N : ℕ) (C : List (List ℕ)) (low_c : AllLow N C) (ls : List ℕ) (low : all_below (2 * N) ls ≡ true) where
  -- the closure with n atoms before it
  abbrev T : List ℕ
  T = replicate (2 * n) 0 ++ closure N C ls

  has_behind : (l : ℕ) → has T (2 * n + l) ≡ has (closure N C ls) l
  unfolding has
  has_behind l =
      ap (λ k. eqb (get_or T (k + l) 0) 1) (sym (length-replicate (2 * n) 0))
      ∙ ap (λ x. eqb x 1) (get_or-append-add (replicate (2 * n) 0) (closure N C ls) l 0)

  drop_behind : drop (2 * n) T ≡ closure N C ls
  drop_behind = drop_at (replicate (2 * n) 0) (closure N C ls) (2 * n) (length-replicate (2 * n) 0)

  held : (l : ℕ) → member l (shifted (2 * n) ls) ≡ true → has T l ≡ true
  held l e =
      let s = shifted_of (2 * n) ls (member_of l (shifted (2 * n) ls) e) in
      ap (has T) s.2 ∙ has_behind s.0 ∙ closure_holds N C ls s.0 (below_at (2 * N) ls low s.0 s.1) (member_in s.1)

  forced : (f : List ℕ) → Memᴰ f (shifted_clauses n C) → (l : ℕ) → forces T l f ≡ true → has T l ≡ true
  unfolding shifted_clauses
  forced f m l e =
      let o = map_of (shifted (2 * n)) C m in
      let g = o.it in
      let h : forces T l (shifted (2 * n) g) ≡ true = subst (λ (x : List ℕ). forces T l x ≡ true) o.same e in
      let s = shifted_of (2 * n) g (forced_in T l (shifted (2 * n) g) h) in
      let k : forces (closure N C ls) s.0 g ≡ true =
      ap (λ S. forces S s.0 g) (sym drop_behind)
      ∙ sym (forces_shift n T s.0 g)
      ∙ ap (λ x. forces T x (shifted (2 * n) g)) (sym s.2)
      ∙ h in
      ap (has T) s.2 ∙ has_behind s.0
      ∙ closure_closed N C ls g o.mem s.0 (below_at (2 * N) g (low_c g o.mem) s.0 s.1) k

  pub closure_commutes : (l : ℕ) → has (closure (n + N) (shifted_clauses n C) (shifted (2 * n) ls)) (2 * n + l) ≡ has (closure N C ls) l
  closure_commutes l =
      same_bool_lem (has (closure (n + N) (shifted_clauses n C) (shifted (2 * n) ls)) (2 * n + l)) (has (closure N C ls) l)
      (λ e. sym (has_behind l) ∙ closure_least (n + N) (shifted_clauses n C) (shifted (2 * n) ls) T held forced (2 * n + l) e)
      (closure_shift n N (n + N) (omega arith) C (shifted_clauses n C) low_c (among n C) ls (shifted (2 * n) ls) low (within_shifted n ls) l)
