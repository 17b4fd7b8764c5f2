-- The test of all operators: the flags of the clauses that fail, and which operators fail clauses of how many literals. Assumes nothing.
use mathlib.Core.Bool.{Bool, true, false, not, ◌&&◌, ◌||◌, and-false}
use mathlib.Core.Logic.{◌⊎◌, inl, inr}
use mathlib.Core.Option.{Option}
use mathlib.Core.Path.{◌≡◌, refl, sym, ◌∙◌, ap, subst}
use mathlib.Core.List.{List, [], ◌∷◌, ◌++◌, map, Memᴰ}
use Prim.Native.Nat.{ℕ, ◌+◌, ◌*◌, ◌≤◌, ◌<◌}
use native.Mathlib.Omega.{arith}
use lib.Dec.{eqb}
use lib.ListN.{length, get_or, take, drop, set, replicate, length-replicate, get_or-replicate}
use lib.Seq.{get_or-set_same, get_or-set_other}
use borrow.Author.Tests.{eqb-true, eqb-false, eq-eqb, ne_eqb}
use Rattle.definitions.specs.Lists.{any}
use Rattle.definitions.specs.Image.{Task}
use Rattle.definitions.specs.Closure.{has, bit}
use Rattle.definitions.specs.Clauses.{width}
use Rattle.definitions.specs.Kept.{kept}
use Rattle.definitions.specs.Step.{operator_at}
use Rattle.definitions.proofs.ListLaws.{any_agree, decide}
use Rattle.definitions.proofs.Walks.{left_here, any_on, any_end}
use Rattle.judge.specs.Judging.{flag_more}
use Rattle.judge.proofs.Flagged.{flag_set, flag_stay, flag_end}
use Rattle.clause_set.specs.Put.{put_all}
use Rattle.next_set.specs.Build.{fails_below, some_fails, added_by}
use Rattle.next_set.specs.Post.{FlagsAdded, FailuresNoted}
use Rattle.next_set.proofs.Flags.{flags_length, flag_yes, flag_no, has_not}
use Rattle.next_set.proofs.Testing.{fails_start, fails_on}
use Rattle.next_set.proofs.Adding.{none_added}

-- ---- the flags of one operator, clause after clause
-- the flag at a place after one was put in
put_has : (s : List ℕ) (q i : ℕ) → i < length s → has (set s q 1) i ≡ (eqb q i || has s i)
unfolding has
put_has s q i h = go (decide (eqb q i))
  where
    go : (eqb q i ≡ true) ⊎ (eqb q i ≡ false) → eqb (get_or (set s q 1) i 0) 1 ≡ (eqb q i || eqb (get_or s i 0) 1)
    go (inl e) =
        let x : q ≡ i = eqb-true q i e in
        rw e (subst (λ (j : ℕ). eqb (get_or (set s j 1) i 0) 1 ≡ true) (sym x) (eq-eqb (get_or (set s i 1) i 0) 1 (get_or-set_same s i 1 0 h)))
    go (inr e) = rw (e, get_or-set_other s q i 1 0 (λ x. eqb-false q i e (sym x)))

or_swap : (a b c : Bool) → ((a || b) || c) ≡ (b || (a || c))
or_swap true true c = refl
or_swap true false c = refl
or_swap false b c = refl

module _ (p : List ℕ → Bool) (C : List (List ℕ)) (at : ℕ) where
  -- the first j clauses are done: what was to be flagged is flagged, or comes from the clauses that are left
  pub record Adding (to₀ to due₀ due : List ℕ) (j : ℕ) : Type 0 where
    pub flags : flag_more p C to₀ ≡ take j to ++ flag_more p (drop j C) (drop j to)
    pub noted :
        (i : ℕ) → i < length due₀
        → (any (λ f. p f && eqb (at + length f) i) C || has due₀ i) ≡ (any (λ f. p f && eqb (at + length f) i) (drop j C) || has due i)

  pub adding_start : (to due : List ℕ) → Adding to to due due 0
  adding_start to due = record { flags = refl; noted = λ i h. refl }

  module _ (to₀ to due₀ due : List ℕ) (j : ℕ) (a : Adding to₀ to due₀ due j) where
    pub adding_end : length C ≤ j → FlagsAdded p C at to₀ to due₀ due
    adding_end past =
        record {
          flags = sym (a.flags ∙ flag_end p C to j past);
          noted = λ i h. sym (a.noted i h ∙ rw (any_end (λ f. p f && eqb (at + length f) i) C j past));
        }

    module _ (flags : List ℕ) (e : flags ≡ map (λ f. bit (p f)) C) (more : j < length flags) (room : length flags ≡ length to) where
      inside : j < length C
      inside = let l = flags_length p C flags e in omega arith

      -- a clause without a flag
      pub adding_pass : (get_or flags j 0 ≡ 1 → ⊥) → Adding to₀ to due₀ due (j + 1)
      adding_pass h =
          let off = flag_no p C flags e j more h in
          record {
            flags = a.flags ∙ flag_stay p C to j (get_or C j []) refl inside (omega arith) off;
            noted = λ i k. a.noted i k ∙ rw (any_on C j [] (get_or C j []) refl inside (λ f. p f && eqb (at + length f) i) (rw off));
          }

      -- a clause with its flag
      pub adding_put :
          get_or flags j 0 ≡ 1 → (k : ℕ) → k ≡ length (get_or C j []) → length due ≡ length due₀
          → Adding to₀ (set to j 1) due₀ (set due (at + k) 1) (j + 1)
      unfolding any
      adding_put h k size same =
          let on = flag_yes p C flags e j more h in
          record {
            flags = a.flags ∙ flag_set p C to j (get_or C j []) refl inside (omega arith) on;
            noted =
                λ i d. a.noted i d
                ∙ rw (left_here C j [] (get_or C j []) refl inside, on, put_has due (at + k) i (omega arith), size)
                (or_swap (eqb (at + length (get_or C j [])) i) (any (λ f. p f && eqb (at + length f) i) (drop (j + 1) C)) (has due i));
          }

-- ---- all operators
-- a number below j + 1 is below j, or it is j
below_suc : (i j : ℕ) → i < j + 1 → (i < j) ⊎ (i ≡ j)
below_suc i j h = go (decide (eqb i j))
  where
    go : (eqb i j ≡ true) ⊎ (eqb i j ≡ false) → (i < j) ⊎ (i ≡ j)
    go (inl e) = inr (eqb-true i j e)
    go (inr e) = let ne = eqb-false i j e in inl (omega arith)

any_none : {A : Type 0} (p : A → Bool) (xs : List A) → ((x : A) → Memᴰ x xs → p x ≡ false) → any p xs ≡ false
unfolding any
any_none p [] h = refl
any_none p (x ∷ xs) h = rw (h x (Memᴰ.head refl)) (any_none p xs (λ y m. h y (Memᴰ.tail m)))

or-false : (a b : Bool) → b ≡ false → (a || b) ≡ a
or-false true b e = refl
or-false false b e = e

and_swap : (a b : Bool) → (a && b) ≡ (b && a)
and_swap true true = refl
and_swap true false = refl
and_swap false true = refl
and_swap false false = refl

-- a place stands for one operator
same_place : (i j k x : ℕ) → 1 ≤ k → k ≤ width → 1 ≤ x → x ≤ width → width * j + x ≡ width * i + k → i ≡ j
unfolding width
same_place i j k x a b d e q = omega arith

module _ (C : List (List ℕ)) (sizes : (f : List ℕ) → Memᴰ f C → (1 ≤ length f) × (length f ≤ width)) (p : List ℕ → Bool) where
  -- the places of an operator have the flags of its own clauses
  same_operator : (j k : ℕ) → any (λ f. p f && eqb (width * j + length f) (width * j + k)) C ≡ any (λ f. eqb (length f) k && p f) C
  same_operator j k =
      any_agree (λ f. p f && eqb (width * j + length f) (width * j + k)) (λ f. eqb (length f) k && p f) C
      (λ f m. rw (shift (length f) (decide (eqb (length f) k))) (and_swap (p f) (eqb (length f) k)))
    where
      shift : (x : ℕ) → (eqb x k ≡ true) ⊎ (eqb x k ≡ false) → eqb (width * j + x) (width * j + k) ≡ eqb x k
      shift x (inl e) = rw e (eq-eqb (width * j + x) (width * j + k) (ap (λ (z : ℕ). width * j + z) (eqb-true x k e)))
      shift x (inr e) = rw e (ne_eqb (width * j + x) (width * j + k) (λ q. eqb-false x k e (omega arith)))

  other_operator : (i j k : ℕ) → (i ≡ j → ⊥) → 1 ≤ k → k ≤ width → any (λ f. p f && eqb (width * j + length f) (width * i + k)) C ≡ false
  other_operator i j k ne low high =
      any_none (λ f. p f && eqb (width * j + length f) (width * i + k)) C (λ f m. rw (off (length f) (sizes f m).0 (sizes f m).1) (and-false (p f)))
    where
      off : (x : ℕ) → 1 ≤ x → x ≤ width → eqb (width * j + x) (width * i + k) ≡ false
      off x a b = ne_eqb (width * j + x) (width * i + k) (λ q. ne (same_place i j k x low high a b q))

module _ (t : Task) (C : List (List ℕ)) where
  -- the first j operators are done
  pub record TestedBelow (failing due : List ℕ) (j : ℕ) : Type 0 where
    pub flags : failing ≡ map (λ f. bit (fails_below t C j f)) C
    pub done :
        (i k : ℕ) → i < j → 1 ≤ k → k ≤ width → width * i + k < length due
        → has due (width * i + k) ≡ some_fails t C k (operator_at t i)
    pub left : (i k : ℕ) → j ≤ i → 1 ≤ k → k ≤ width → width * i + k < length due → has due (width * i + k) ≡ false

  pub tested_start : (k m : ℕ) → k ≡ length C → TestedBelow (replicate k 0) (replicate m 0) 0
  unfolding has
  tested_start k m e =
      record {
        flags = ap (λ (x : ℕ). replicate x 0) e ∙ fails_start t C;
        done = λ i k h. absurd (omega arith);
        left = λ i k h a b room. rw (get_or-replicate {A = ℕ} m (width * i + k) 0 0 (rw (length-replicate {A = ℕ} m 0) at room));
      }

  pub tested_end : (failing due : List ℕ) → TestedBelow failing due (length t.operators) → FailuresNoted t C due
  tested_end failing due b = record { flag = λ i k h. b.done i k h }

  module _
      (sizes : (f : List ℕ) → Memᴰ f C → (1 ≤ length f) × (length f ≤ width)) (atoms j : ℕ) (counted : atoms ≡ t.atoms)
      (failing failing' due due' : List ℕ) where
    abbrev fails : List ℕ → Bool
    fails = λ f. not (kept atoms C (operator_at t j) f)

    pub tested_next :
        TestedBelow failing due j → FlagsAdded fails C (width * j) failing failing' due due' → length due' ≡ length due
        → TestedBelow failing' due' (j + 1)
    unfolding some_fails
    tested_next b a same =
        record {
          flags = fails_on t C atoms j failing failing' counted b.flags a.flags;
          done = λ i k h low high room. here i k low high (rw same at room) (below_suc i j h);
          left =
              λ i k h low high room. a.noted (width * i + k) (rw same at room)
              ∙ rw (other_operator C sizes fails i j k (λ e. omega arith) low high) (b.left i k (omega arith) low high (rw same at room));
        }
      where
        here :
            (i k : ℕ) → 1 ≤ k → k ≤ width → width * i + k < length due → (i < j) ⊎ (i ≡ j)
            → has due' (width * i + k) ≡ some_fails t C k (operator_at t i)
        here i k low high room (inl h) =
            a.noted (width * i + k) room ∙ rw (other_operator C sizes fails i j k (λ e. omega arith) low high) (b.done i k h low high room)
        here i k low high room (inr e) =
            subst (λ (x : ℕ). has due' (width * x + k) ≡ some_fails t C k (operator_at t x)) (sym e)
            (a.noted (width * j + k) (rw e at room)
            ∙ or-false _ _ (b.left j k (omega arith) low high (rw e at room))
            ∙ same_operator C sizes fails j k
            ∙ ap (λ (x : ℕ). any (λ f. eqb (length f) k && not (kept x C (operator_at t j) f)) C) counted)

  -- nothing is to be put in for an operator and a number of literals that are not noted
  pub put_none :
      (due : List ℕ) → FailuresNoted t C due → (i k : ℕ) → i < length t.operators → 1 ≤ k → k ≤ width
      → width * i + k < length due → get_or due (width * i + k) 0 ≡ 0 → (rows : ℕ) (s : Option (List (List ℕ)))
      → put_all rows (added_by t C k (operator_at t i)) s ≡ s
  unfolding put_all
  put_none due noted i k h low high room z rows s = rw (none_added t C (operator_at t i) k (sym (noted.flag i k h low high room) ∙ off))
    where
      off : has due (width * i + k) ≡ false
      off = has_not due (width * i + k) (λ one. omega arith)
