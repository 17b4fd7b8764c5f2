-- Flags of clauses: for one row after the other, and in place. Assumes nothing.
use mathlib.Core.Bool.{Bool, true, false, not, ◌||◌, cond}
use mathlib.Core.Path.{◌≡◌, refl, sym, ◌∙◌, ap, ap₂}
use mathlib.Core.List.{List, [], ◌∷◌, ◌++◌, map, Memᴰ}
use Prim.Native.Nat.{ℕ, suc, ◌+◌, ◌*◌, ◌≤◌, ◌<◌}
use native.Mathlib.Numerals.{add-one}
use native.Mathlib.Decide.{ℕ_discrete}
use native.Mathlib.Omega.{arith}
use lib.ListN.{length, get_or, take, drop, set, replicate, drop_of_length-le, take-append-drop}
use lib.Seq.{ext_get_or, get_or-set_same, get_or-set_other, drop-cons, take-suc, take-suc-set, drop-set-lt, append_snoc}
use Rattle.definitions.specs.Lists.{any, below, member}
use Rattle.definitions.specs.Image.{Row, Operator}
use Rattle.definitions.specs.Closure.{has, bit, closure, contradictory}
use Rattle.definitions.specs.Kept.{kept}
use Rattle.definitions.proofs.ListLaws.{table_at, table_length}
use Rattle.judge.specs.Judging.{flags_of, flag_more, lacks_flag, violates, some_violates, fail_flags}
use Rattle.judge.proofs.Violations.{kept_contradictory, kept_rows}

-- two tests that agree on the clauses give the same flags
pub flag_agree :
    (t u : List ℕ → Bool) (D : List (List ℕ)) (s : List ℕ) → ((f : List ℕ) → Memᴰ f D → t f ≡ u f)
    → flag_more t D s ≡ flag_more u D s
unfolding flag_more
flag_agree t u [] s h = refl
flag_agree t u (f ∷ D) [] h = refl
flag_agree t u (f ∷ D) (x ∷ s) h =
    ap₂ (λ b r. cond b 1 x ∷ r) (h f (Memᴰ.head refl)) (flag_agree t u D s (λ g m. h g (Memᴰ.tail m)))

-- a test that no clause passes gives none
pub flag_none :
    (t : List ℕ → Bool) (D : List (List ℕ)) (s : List ℕ) → ((f : List ℕ) → Memᴰ f D → t f ≡ false)
    → flag_more t D s ≡ s
unfolding flag_more
flag_none t [] s h = refl
flag_none t (f ∷ D) [] h = refl
flag_none t (f ∷ D) (x ∷ s) h = ap₂ (λ b r. cond b 1 x ∷ r) (h f (Memᴰ.head refl)) (flag_none t D s (λ g m. h g (Memᴰ.tail m)))

flag_twice : (t u : List ℕ → Bool) (D : List (List ℕ)) (s : List ℕ) → flag_more (λ f. t f || u f) D s ≡ flag_more u D (flag_more t D s)
unfolding flag_more
flag_twice t u [] s = refl
flag_twice t u (f ∷ D) [] = refl
flag_twice t u (f ∷ D) (x ∷ s) = ap₂ (λ y r. y ∷ r) (go (t f) (u f)) (flag_twice t u D s)
  where
    go : (a b : Bool) → cond (a || b) 1 x ≡ cond b 1 (cond a 1 x)
    go true true = refl
    go true false = refl
    go false b = refl

-- the flags of a test, from zeros
pub flag_zeros : (t : List ℕ → Bool) (D : List (List ℕ)) → flag_more t D (replicate (length D) 0) ≡ map (λ f. bit (t f)) D
unfolding flag_more bit
flag_zeros t [] = refl
flag_zeros t (f ∷ D) = ap (λ r. cond (t f) 1 0 ∷ r) (flag_zeros t D)

pub flag_length : (t : List ℕ → Bool) (D : List (List ℕ)) (s : List ℕ) → length (flag_more t D s) ≡ length s
unfolding flag_more
flag_length t [] s = refl
flag_length t (f ∷ D) [] = refl
flag_length t (f ∷ D) (x ∷ s) = ap suc (flag_length t D s)

-- ---- in place: what is left at clause i
module _
    (t : List ℕ → Bool) (D : List (List ℕ)) (s : List ℕ) (i : ℕ) (f : List ℕ) (at : f ≡ get_or D i []) (more : i < length D)
    (room : i < length s) where
  flag_here :
      (s' : List ℕ) → take (suc i) s' ≡ take i s ++ (cond (t f) 1 (get_or s i 0) ∷ []) → drop (suc i) s' ≡ drop (suc i) s
      → take i s ++ flag_more t (drop i D) (drop i s) ≡ take (i + 1) s' ++ flag_more t (drop (i + 1) D) (drop (i + 1) s')
  unfolding flag_more
  flag_here s' front rest =
      let g = get_or D i [] in
      let r = flag_more t (drop (suc i) D) (drop (suc i) s) in
      rw (add-one, front, rest, append_snoc, at)
      (ap₂ (λ a b. take i s ++ flag_more t a b) (drop-cons D i [] more) (drop-cons s i 0 room))

  pub flag_set :
      t f ≡ true
      → take i s ++ flag_more t (drop i D) (drop i s) ≡ take (i + 1) (set s i 1) ++ flag_more t (drop (i + 1) D) (drop (i + 1) (set s i 1))
  flag_set h =
      flag_here (set s i 1) (take-suc-set s i 1 room ∙ ap (λ b. take i s ++ (cond b 1 (get_or s i 0) ∷ [])) (sym h))
      (drop-set-lt (suc i) s i 1 (omega arith))

  pub flag_stay : t f ≡ false → take i s ++ flag_more t (drop i D) (drop i s) ≡ take (i + 1) s ++ flag_more t (drop (i + 1) D) (drop (i + 1) s)
  flag_stay h = flag_here s (take-suc s i 0 room ∙ ap (λ b. take i s ++ (cond b 1 (get_or s i 0) ∷ [])) (sym h)) refl

pub flag_end : (t : List ℕ → Bool) (D : List (List ℕ)) (s : List ℕ) (i : ℕ) → length D ≤ i → take i s ++ flag_more t (drop i D) (drop i s) ≡ s
unfolding flag_more
flag_end t D s i past = rw (drop_of_length-le D {i = i} past) (take-append-drop i s)

-- ---- row by row
module _ (N : ℕ) (C : List (List ℕ)) (o : Operator) (D : List (List ℕ)) where
  pub rows_on :
      (r : Row) (rs : List Row) (s : List ℕ)
      → flag_more (some_violates N C o (r ∷ rs)) D s ≡ flag_more (some_violates N C o rs) D (flag_more (violates N C o r) D s)
  unfolding some_violates any
  rows_on r rs s = flag_twice (violates N C o r) (some_violates N C o rs) D s

  pub rows_end : (s : List ℕ) → flag_more (some_violates N C o []) D s ≡ s
  unfolding some_violates any
  rows_end s = flag_none (λ f. false) D s (λ f m. refl)

  pub rows_fail :
      contradictory N (closure N C o.precondition) ≡ false → flag_more (some_violates N C o o.rows) D (replicate (length D) 0) ≡ fail_flags N C o D
  unfolding fail_flags
  rows_fail h =
      flag_agree (some_violates N C o o.rows) (λ f. not (kept N C o f)) D (replicate (length D) 0) (λ f m. sym (kept_rows N C o f h))
      ∙ flag_zeros (λ f. not (kept N C o f)) D

  pub contradictory_fail : contradictory N (closure N C o.precondition) ≡ true → replicate (length D) 0 ≡ fail_flags N C o D
  unfolding fail_flags
  contradictory_fail h =
      sym (flag_none (λ f. not (kept N C o f)) D (replicate (length D) 0) (λ f m. ap not (kept_contradictory N C o f h)))
      ∙ flag_zeros (λ f. not (kept N C o f)) D

-- ---- the test of one clause
module _ (l : ℕ) (G f : List ℕ) where
  pub lacks_missing : member l f ≡ false → lacks_flag l G f ≡ false
  unfolding lacks_flag
  lacks_missing h = rw h

  pub lacks_held : member l f ≡ true → lacks_flag l G f ≡ not (any (has G) f)
  unfolding lacks_flag
  lacks_held h = rw h

-- ---- the flags of a set, one after the other
pub flags_more :
    (K s : List ℕ) (i x : ℕ) → i < length s → x ≡ bit (has K i) → ((k : ℕ) → k < i → get_or s k 0 ≡ bit (has K k)) → (k : ℕ) → k < i + 1
    → get_or (set s i x) k 0 ≡ bit (has K k)
flags_more K s i x inside ex h k low = go (ℕ_discrete k i)
  where
    go : Dec (k ≡ i) → get_or (set s i x) k 0 ≡ bit (has K k)
    go (yes e) = rw (e, get_or-set_same s i x 0 inside) ex
    go (no ne) = get_or-set_other s i k x 0 ne ∙ h k (omega arith)

pub flags_end :
    (atoms : ℕ) (K s : List ℕ) (i : ℕ) → length s ≡ 2 * atoms → 2 * atoms ≤ i
    → ((k : ℕ) → k < i → get_or s k 0 ≡ bit (has K k)) → s ≡ flags_of atoms K
unfolding flags_of
flags_end atoms K s i len past h =
    ext_get_or 0 s (map (λ l. bit (has K l)) (below (2 * atoms))) (len ∙ sym (table_length (λ l. bit (has K l)) (2 * atoms)))
    (λ k low. h k (omega arith) ∙ sym (table_at (λ l. bit (has K l)) (2 * atoms) k (omega arith)))
