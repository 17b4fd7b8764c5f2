-- The flags of the guaranteed literals are what the walks over the operator's rows leave. Assumes nothing.
use mathlib.Core.Bool.{Bool, true, false, beq, not, ◌&&◌, ◌||◌, cond, and-false}
use mathlib.Core.Logic.{◌⊎◌, inl, inr}
use mathlib.Core.Path.{◌≡◌, refl, sym, ◌∙◌, ap, ap₂, subst}
use mathlib.Core.List.{List, [], ◌∷◌, ◌++◌, map}
use Prim.Native.Nat.{ℕ, ◌*◌, ◌<◌}
use lib.Dec.{eqb}
use lib.ListN.{length, get_or, set}
use lib.Seq.{set-get_or, ext_get_or}
use borrow.Author.Tests.{eqb-true, eqb-false, eq-eqb, ne_eqb}
use Rattle.definitions.specs.Lists.{any, all, keep, below}
use Rattle.definitions.specs.Literal.{positive, complement}
use Rattle.definitions.specs.Image.{Row, Operator}
use Rattle.definitions.specs.Closure.{has, bit, closure, contradictory}
use Rattle.definitions.specs.Kept.{rows_with, all_in, surely_fires, never_fires, made_true, stays_true, guaranteed}
use Rattle.definitions.proofs.ListLaws.{decide, all_agree, table_at, table_length}
use Rattle.propagation.proofs.Sets.{complement_back}
use Rattle.propagation.proofs.MarkedSets.{bit_back}
use Rattle.literal.specs.Literal.{has_sign}
use Rattle.literal.proofs.Mark.{put_at, put_length}
use Rattle.judge.specs.Judging.{flags_of, flag_effects, can_fire, drop_changed, guaranteed_flags}

-- ---- tests of kept lists
module _ {A : Type 0} (t p : A → Bool) where
  pub any_keep : (xs : List A) → any p (keep t xs) ≡ any (λ x. t x && p x) xs
  unfolding any keep
  any_keep [] = refl
  any_keep (x ∷ xs) = go (t x) refl (any_keep xs)
    where
      go :
          (b : Bool) → t x ≡ b → any p (keep t xs) ≡ any (λ x. t x && p x) xs
          → any p (keep t (x ∷ xs)) ≡ ((t x && p x) || any (λ x. t x && p x) xs)
      go true e k = rw (e, keep, k)
      go false e k = rw (e, keep, k)

  pub all_keep : (xs : List A) → all p (keep t xs) ≡ all (λ x. not (t x) || p x) xs
  unfolding all keep
  all_keep [] = refl
  all_keep (x ∷ xs) = go (t x) refl (all_keep xs)
    where
      go :
          (b : Bool) → t x ≡ b → all p (keep t xs) ≡ all (λ x. not (t x) || p x) xs
          → all p (keep t (x ∷ xs)) ≡ ((not (t x) || p x) && all (λ x. not (t x) || p x) xs)
      go true e k = rw (e, keep, k)
      go false e k = rw (e, keep, k)

pub all_not : {A : Type 0} (p : A → Bool) (xs : List A) → all (λ x. not (p x)) xs ≡ not (any p xs)
unfolding all any
all_not p [] = refl
all_not p (x ∷ xs) = rw (all_not p xs) (go (p x) (any p xs))
  where
    go : (a b : Bool) → (not a && not b) ≡ not (a || b)
    go true b = refl
    go false b = refl

-- ---- complements
pub complement_eqb : (a b : ℕ) → eqb a (complement b) ≡ eqb (complement a) b
complement_eqb a b = go (decide (eqb a (complement b)))
  where
    go : (eqb a (complement b) ≡ true) ⊎ (eqb a (complement b) ≡ false) → eqb a (complement b) ≡ eqb (complement a) b
    go (inl h) = h ∙ sym (eq-eqb (complement a) b (ap complement (eqb-true a (complement b) h) ∙ complement_back b))
    go (inr h) =
        h
        ∙ sym (ne_eqb (complement a) b (λ e. eqb-false a (complement b) h (sym (complement_back a) ∙ ap complement e)))

-- the flag of a literal, positive or not (p), that a row surely makes true (f), that some row can make false (x), and that lies in K (k)
flag_bits :
    (p f x k : Bool)
    → cond (beq p true && f) 1 (cond x 0 (cond (beq p false && f) 1 (bit k))) ≡ bit ((f && (p || not x)) || (k && not x))
unfolding bit
flag_bits true true x k = refl
flag_bits true false true true = refl
flag_bits true false true false = refl
flag_bits true false false true = refl
flag_bits true false false false = refl
flag_bits false true true true = refl
flag_bits false true true false = refl
flag_bits false true false k = refl
flag_bits false false true true = refl
flag_bits false false true false = refl
flag_bits false false false true = refl
flag_bits false false false false = refl

-- the rows with effect m are all of its sign
sign_any :
    (adds : Bool) (K : List ℕ) (qs : List Row) (m : ℕ)
    → any (λ q. eqb q.effect m && (has_sign adds q.effect && all_in K q.conditions)) qs
    ≡ (has_sign adds m && any (λ q. eqb q.effect m && all_in K q.conditions) qs)
unfolding any
sign_any adds K [] m = sym (and-false (has_sign adds m))
sign_any adds K (q ∷ qs) m = rw (sign_any adds K qs m) (go (decide (eqb q.effect m)))
  where
    more : Bool
    more = any (λ q. eqb q.effect m && all_in K q.conditions) qs

    apart : (k a r : Bool) → ((k && a) || (k && r)) ≡ (k && (a || r))
    apart true a r = refl
    apart false a r = refl

    go :
        (eqb q.effect m ≡ true) ⊎ (eqb q.effect m ≡ false)
        → ((eqb q.effect m && (has_sign adds q.effect && all_in K q.conditions)) || (has_sign adds m && more))
        ≡ (has_sign adds m && ((eqb q.effect m && all_in K q.conditions) || more))
    go (inl h) =
        let same : q.effect ≡ m = eqb-true q.effect m h in
        rw (h, ap (has_sign adds) same) (apart (has_sign adds m) (all_in K q.conditions) more)
    go (inr h) = rw h

-- the flag of m is set if m is the effect of a row of the sign whose conditions lie in K
effects_at :
    (adds : Bool) (K : List ℕ) (qs : List Row) (S : List ℕ) (m : ℕ) → m < length S
    → get_or (flag_effects adds K qs S) m 0
    ≡ cond (has_sign adds m && any (λ q. eqb q.effect m && all_in K q.conditions) qs) 1 (get_or S m 0)
effects_at adds K qs S m low =
    put_at 1 (λ q. q.effect) (λ q. has_sign adds q.effect && all_in K q.conditions) qs S m low
    ∙ ap (λ b. cond b 1 (get_or S m 0)) (sign_any adds K qs m)

effects_length : (adds : Bool) (K : List ℕ) (qs : List Row) (S : List ℕ) → length (flag_effects adds K qs S) ≡ length S
effects_length adds K = put_length 1 (λ q. q.effect) (λ q. has_sign adds q.effect && all_in K q.conditions)

module _ (N : ℕ) (C : List (List ℕ)) where
  -- the walks leave the flags of the guaranteed literals
  module _ (o : Operator) (ls : List ℕ) where
    fires_any : (K : List ℕ) (m : ℕ) → surely_fires o K m ≡ any (λ q. eqb q.effect m && all_in K q.conditions) o.rows
    unfolding surely_fires rows_with
    fires_any K m = any_keep (λ q. eqb q.effect m) (λ q. all_in K q.conditions) o.rows

    -- some row with the complement of m can fire
    abbrev changes : ℕ → Bool
    changes m = any (λ q. eqb (complement q.effect) m && can_fire N C ls q.conditions) o.rows

    never_any : (m : ℕ) → never_fires N C o ls (complement m) ≡ not (changes m)
    unfolding never_fires rows_with can_fire
    never_any m =
        all_keep (λ q. eqb q.effect (complement m)) (λ q. contradictory N (closure N C (ls ++ q.conditions))) o.rows
        ∙ all_agree (λ q. not (eqb q.effect (complement m)) || contradictory N (closure N C (ls ++ q.conditions)))
        (λ q. not (eqb (complement q.effect) m && can_fire N C ls q.conditions))
        o.rows
        (λ q i.
        ap (λ b. not b || contradictory N (closure N C (ls ++ q.conditions))) (complement_eqb q.effect m)
        ∙ go (eqb (complement q.effect) m) (contradictory N (closure N C (ls ++ q.conditions))))
        ∙ all_not (λ q. eqb (complement q.effect) m && can_fire N C ls q.conditions) o.rows
      where
        go : (a b : Bool) → (not a || b) ≡ not (a && not b)
        go true true = refl
        go true false = refl
        go false b = refl

    -- the flags of K with the deletes that surely fire, without what a row that can fire makes false, with the adds that surely fire
    abbrev walked : List ℕ
    walked =
        let K = closure N C ls in
        flag_effects true K o.rows (drop_changed N C ls o.rows (flag_effects false K o.rows (flags_of N K)))

    pub guaranteed_walks : walked ≡ guaranteed_flags N C o ls
    unfolding guaranteed_flags guaranteed made_true stays_true flags_of has_sign
    guaranteed_walks = ext_get_or 0 G H same (λ m h. at m (subst (λ (k : ℕ). m < k) len_g h))
      where
        K : List ℕ
        K = closure N C ls

        F : List ℕ
        F = map (λ l. bit (has K l)) (below (2 * N))

        D : List ℕ
        D = flag_effects false K o.rows F

        E : List ℕ
        E = drop_changed N C ls o.rows D

        G : List ℕ
        G = flag_effects true K o.rows E

        H : List ℕ
        H = map (λ m. bit (guaranteed N C o ls K m)) (below (2 * N))

        len_f : length F ≡ 2 * N
        len_f = table_length (λ l. bit (has K l)) (2 * N)

        len_d : length D ≡ 2 * N
        len_d = effects_length false K o.rows F ∙ len_f

        len_e : length E ≡ 2 * N
        len_e = put_length 0 (λ q. complement q.effect) (λ q. can_fire N C ls q.conditions) o.rows D ∙ len_d

        len_g : length G ≡ 2 * N
        len_g = effects_length true K o.rows E ∙ len_e

        same : length G ≡ length H
        same = len_g ∙ sym (table_length (λ m. bit (guaranteed N C o ls K m)) (2 * N))

        at : (m : ℕ) → m < 2 * N → get_or G m 0 ≡ get_or H m 0
        at m low =
            let fires = any (λ q. eqb q.effect m && all_in K q.conditions) o.rows in
            effects_at true K o.rows E m (subst (λ (k : ℕ). m < k) (sym len_e) low)
            ∙ ap (λ x. cond (has_sign true m && fires) 1 x)
            (put_at 0 (λ q. complement q.effect) (λ q. can_fire N C ls q.conditions) o.rows D m (subst (λ (k : ℕ). m < k) (sym len_d) low)
            ∙ ap (λ x. cond (changes m) 0 x)
            (effects_at false K o.rows F m (subst (λ (k : ℕ). m < k) (sym len_f) low)
            ∙ ap (λ x. cond (has_sign false m && fires) 1 x) (table_at (λ l. bit (has K l)) (2 * N) m low)))
            ∙ flag_bits (positive m) fires (changes m) (has K m)
            ∙ ap₂ (λ a b. bit ((a && (positive m || b)) || (has K m && b))) (sym (fires_any K m)) (sym (never_any m))
            ∙ sym (table_at (λ m. bit (guaranteed N C o ls K m)) (2 * N) m low)

    pub guaranteed_has : (m : ℕ) → m < 2 * N → has (guaranteed_flags N C o ls) m ≡ guaranteed N C o ls (closure N C ls) m
    unfolding has guaranteed_flags
    guaranteed_has m low =
        ap (λ x. eqb x 1) (table_at (λ m. bit (guaranteed N C o ls (closure N C ls) m)) (2 * N) m low)
        ∙ bit_back (guaranteed N C o ls (closure N C ls) m)

-- ---- the walks over the rows, by the row that comes next
module _ (adds : Bool) (K : List ℕ) (rs rs' : List Row) (e : ℕ) (cs S : List ℕ) (next : rs ≡ record { effect = e; conditions = cs } ∷ rs') where
  pub effects_other : has_sign adds e ≡ false → flag_effects adds K rs S ≡ flag_effects adds K rs' S
  effects_other k = rw (next, k)

  pub effects_made :
      (S' : List ℕ) → S' ≡ set S e 1 → has_sign adds e ≡ true → all_in K cs ≡ true
      → flag_effects adds K rs S ≡ flag_effects adds K rs' S'
  effects_made S' es k h = rw (next, k, h, es)

  pub effects_passed : has_sign adds e ≡ true → all_in K cs ≡ false → flag_effects adds K rs S ≡ flag_effects adds K rs' S
  effects_passed k h = rw (next, k, h)

pub effects_end : (adds : Bool) (K : List ℕ) (rs : List Row) (S : List ℕ) → rs ≡ [] → flag_effects adds K rs S ≡ S
effects_end adds K rs S h = rw h

module _ (N : ℕ) (C : List (List ℕ)) (ls : List ℕ) where
  module _ (rs rs' : List Row) (e : ℕ) (cs S : List ℕ) (next : rs ≡ record { effect = e; conditions = cs } ∷ rs') where
    pub drop_fires :
        (l : ℕ) (S' : List ℕ) → l ≡ complement e → S' ≡ set S l 0 → can_fire N C ls cs ≡ true
        → drop_changed N C ls rs S ≡ drop_changed N C ls rs' S'
    drop_fires l S' el es h = rw (next, h, es, el)

    -- where the flag is zero already
    pub drop_zero : (l : ℕ) → l ≡ complement e → get_or S l 0 ≡ 0 → drop_changed N C ls rs S ≡ drop_changed N C ls rs' S
    drop_zero l el z = rw next (ap (drop_changed N C ls rs') (go (can_fire N C ls cs)))
      where
        same : set S (complement e) 0 ≡ S
        same = sym (ap (λ x. set S (complement e) x) (rw (← el) z)) ∙ set-get_or S (complement e) 0

        go : (b : Bool) → cond b (set S (complement e) 0) S ≡ S
        go true = same
        go false = refl

    pub drop_passed : can_fire N C ls cs ≡ false → drop_changed N C ls rs S ≡ drop_changed N C ls rs' S
    drop_passed h = rw (next, h)

  pub drop_end : (rs : List Row) (S : List ℕ) → rs ≡ [] → drop_changed N C ls rs S ≡ S
  drop_end rs S h = rw h

  pub drop_start : (rs rs' : List Row) (S : List ℕ) → rs ≡ rs' → drop_changed N C ls rs' S ≡ drop_changed N C ls rs S
  drop_start rs rs' S h = rw h

pub effects_start :
    (adds : Bool) (K : List ℕ) (rs rs' : List Row) (S : List ℕ) → rs ≡ rs'
    → flag_effects adds K rs' S ≡ flag_effects adds K rs S
effects_start adds K rs rs' S h = rw h

-- by the code's own flags after each walk
pub guaranteed_made :
    (N : ℕ) (C : List (List ℕ)) (o : Operator) (ls F D E G : List ℕ) → F ≡ flags_of N (closure N C ls)
    → D ≡ flag_effects false (closure N C ls) o.rows F → E ≡ drop_changed N C ls o.rows D
    → G ≡ flag_effects true (closure N C ls) o.rows E → G ≡ guaranteed_flags N C o ls
guaranteed_made N C o ls F D E G f d e g = g ∙ rw (e, d, f) (guaranteed_walks N C o ls)
