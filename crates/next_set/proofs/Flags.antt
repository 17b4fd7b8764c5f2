-- Flags of clauses and of literals. Assumes nothing.
use mathlib.Core.Bool.{Bool, true, false, ◌||◌, cond}
use mathlib.Core.Path.{◌≡◌, refl, sym, ◌∙◌, ap}
use mathlib.Core.List.{List, [], ◌∷◌, ◌++◌, map, append-nil}
use Prim.Native.Nat.{ℕ, zero, suc, ◌+◌, ◌-◌, ◌≤◌, ◌<◌}
use native.Mathlib.Numerals.{add-one}
use native.Mathlib.Omega.{arith}
use lib.ListN.{length, get_or, set, take}
use lib.Seq.{take-suc-set, append_snoc}
use borrow.Author.Tests.{eq-eqb, ne_eqb}
use Rattle.definitions.specs.Lists.{keep, range, below}
use Rattle.definitions.specs.Closure.{has, bit}
use Rattle.judge.specs.Judging.{flag_more}
use Rattle.propagation.proofs.MarkedSets.{bit_back}
use Rattle.next_set.specs.Post.{Listed}
use Rattle.definitions.proofs.ListLaws.{keep_yes, keep_no}

bit_one : (b : Bool) → bit b ≡ 1 → b ≡ true
unfolding bit
bit_one true e = refl
bit_one false e = let z : ◌≡◌ {A = ℕ} 0 1 = e in absurd (omega arith)

bit_none : (b : Bool) → (bit b ≡ 1 → ⊥) → b ≡ false
unfolding bit
bit_none true e = absurd (e refl)
bit_none false e = refl

-- ---- a flag for each clause
module _ (t : List ℕ → Bool) where
  pub map_length : (D : List (List ℕ)) → length (map (λ f. bit (t f)) D) ≡ length D
  map_length [] = refl
  map_length (f ∷ D) = ap suc (map_length D)

  pub map_at : (D : List (List ℕ)) (i : ℕ) → i < length D → get_or (map (λ f. bit (t f)) D) i 0 ≡ bit (t (get_or D i []))
  map_at [] i h = absurd (omega arith)
  map_at (f ∷ D) zero h = refl
  map_at (f ∷ D) (suc i) h = map_at D i (omega arith)

  module _ (D : List (List ℕ)) (flags : List ℕ) (e : flags ≡ map (λ f. bit (t f)) D) where
    pub flags_length : length flags ≡ length D
    flags_length = ap length e ∙ map_length D

    flag_at : (i : ℕ) → i < length flags → get_or flags i 0 ≡ bit (t (get_or D i []))
    flag_at i h = ap (λ (l : List ℕ). get_or l i 0) e ∙ map_at D i (let l = flags_length in omega arith)

    pub flag_yes : (i : ℕ) → i < length flags → get_or flags i 0 ≡ 1 → t (get_or D i []) ≡ true
    flag_yes i h k = bit_one (t (get_or D i [])) (sym (flag_at i h) ∙ k)

    pub flag_no : (i : ℕ) → i < length flags → (get_or flags i 0 ≡ 1 → ⊥) → t (get_or D i []) ≡ false
    flag_no i h k = bit_none (t (get_or D i [])) (λ q. k (flag_at i h ∙ q))

    pub flag_has : (i : ℕ) → i < length flags → has flags i ≡ t (get_or D i [])
    unfolding has
    flag_has i h = rw (flag_at i h) (bit_back (t (get_or D i [])))

bit_or : (a b : Bool) → cond a 1 (bit b) ≡ bit (a || b)
unfolding bit
bit_or true b = refl
bit_or false b = refl

-- flags added to flags
pub flag_map : (t p : List ℕ → Bool) (D : List (List ℕ)) → flag_more t D (map (λ f. bit (p f)) D) ≡ map (λ f. bit (t f || p f)) D
unfolding flag_more
flag_map t p [] = refl
flag_map t p (f ∷ D) = rw (flag_map t p D, bit_or (t f) (p f))

-- ---- the literals that have their flag
module _ (flags : List ℕ) where
  pub has_one : (l : ℕ) → get_or flags l 0 ≡ 1 → has flags l ≡ true
  unfolding has
  has_one l e = eq-eqb (get_or flags l 0) 1 e

  pub has_not : (l : ℕ) → (get_or flags l 0 ≡ 1 → ⊥) → has flags l ≡ false
  unfolding has
  has_not l e = ne_eqb (get_or flags l 0) 1 e

  module _
      (list : List ℕ) (count l : ℕ)
      (inv : keep (has flags) (below (length flags)) ≡ take count list ++ keep (has flags) (range l (length flags - l))) where
    module _ (more : l < length flags) where
      next : (xs : List ℕ) → keep (has flags) (l ∷ range (suc l) (length flags - suc l)) ≡ xs → keep (has flags) (range l (length flags - l)) ≡ xs
      unfolding range
      next xs h =
          let e : length flags - l ≡ suc (length flags - suc l) = omega arith in
          rw e h

      pub list_skip :
          (get_or flags l 0 ≡ 1 → ⊥)
          → keep (has flags) (below (length flags)) ≡ take count list ++ keep (has flags) (range (l + 1) (length flags - (l + 1)))
      list_skip h =
          inv
          ∙ ap (λ (xs : List ℕ). take count list ++ xs) (next _ (keep_no (has flags) l (range (suc l) (length flags - suc l)) (has_not l h)))
          ∙ rw add-one

      pub list_take :
          get_or flags l 0 ≡ 1 → count < length list
          → keep (has flags) (below (length flags)) ≡ take (count + 1) (set list count l) ++ keep (has flags) (range (l + 1) (length flags - (l + 1)))
      list_take h room =
          inv
          ∙ ap (λ (xs : List ℕ). take count list ++ xs) (next _ (keep_yes (has flags) l (range (suc l) (length flags - suc l)) (has_one l h)))
          ∙ rw (add-one count, take-suc-set list count l room, add-one l)
          (sym (append_snoc (take count list) l (keep (has flags) (range (suc l) (length flags - suc l)))))

    pub list_end : length flags ≤ l → count ≤ length flags → Listed flags list count
    unfolding range keep
    list_end past few =
        let e : length flags - l ≡ 0 = omega arith in
        record { few = few; words = sym (inv ∙ rw e (append-nil (take count list))) }
