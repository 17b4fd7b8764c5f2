-- Sets of literals: a literal added, what a clause forces, contradictions. Assumes nothing.
use mathlib.Core.Path.{◌≡◌, sym, ◌∙◌, ap}
use mathlib.Core.Bool.{Bool, true, false, ◌&&◌, ◌||◌}
use mathlib.Core.Logic.{◌⊎◌, inl, inr, ⊎_elim}
use mathlib.Core.List.{List, [], ◌∷◌, Memᴰ}
use Prim.Native.Nat.{ℕ, zero, suc, ◌*◌, ◌%◌, ◌<◌}
use native.Mathlib.Omega.{arith}
use native.Mathlib.Decide.{dec_lt, ℕ_discrete}
use lib.Dec.{eqb}
use lib.ListN.{length, get_or, set, get_or-eq_default}
use lib.Seq.{get_or-set_same, get_or-set_other}
use borrow.Author.Tests.{eqb-true, eqb-false, eq-eqb, ne_eqb}
use Rattle.definitions.specs.Lists.{all, below, member}
use Rattle.definitions.specs.Literal.{complement}
use Rattle.definitions.specs.Closure.{has, forces, contradictory}
use Rattle.definitions.proofs.ListLaws.{decide, never, and_left, and_right, and_both, or_cases, or_left, or_right, all_at, all_of, any_in}
use Rattle.definitions.proofs.ListLaws.{any_of, member_in, member_of}
use Rattle.definitions.proofs.LiteralLaws.{Shape, is, isnt, shape}
use Rattle.definitions.proofs.Walks.{below_in}
use Rattle.propagation.specs.Walk.{In, Part, Clash, Sound, zeros}

-- ---- complements
pub complement_back : (l : ℕ) → complement (complement l) ≡ l
complement_back l = go (shape l) (shape (complement l))
  where
    go : Shape l → Shape (complement l) → complement (complement l) ≡ l
    go (is m a e x y c) (is n b f u v d) = omega arith
    go (is m a e x y c) (isnt n b f u v d) = omega arith
    go (isnt m a e x y c) (is n b f u v d) = omega arith
    go (isnt m a e x y c) (isnt n b f u v d) = omega arith

pub complement_other : (l : ℕ) → complement l ≡ l → ⊥
complement_other l h = go (shape l)
  where
    go : Shape l → ⊥
    go (is m a e x y c) = omega arith
    go (isnt m a e x y c) = omega arith

pub complement_below : (l n : ℕ) → n % 2 ≡ 0 → l < n → complement l < n
complement_below l n even h = go (shape l)
  where
    go : Shape l → complement l < n
    go (is m a e x y c) = omega arith
    go (isnt m a e x y c) = omega arith

-- ---- membership
pub in_byte : (s : List ℕ) (l : ℕ) → get_or s l 0 ≡ 1 → In s l
unfolding has
in_byte s l e = eq-eqb (get_or s l 0) 1 e

pub out_byte : (s : List ℕ) (l : ℕ) → (get_or s l 0 ≡ 1 → ⊥) → has s l ≡ false
unfolding has
out_byte s l e = ne_eqb (get_or s l 0) 1 e

pub byte_in : (s : List ℕ) (l : ℕ) → In s l → get_or s l 0 ≡ 1
unfolding has
byte_in s l e = eqb-true (get_or s l 0) 1 e

pub byte_out : (s : List ℕ) (l : ℕ) → has s l ≡ false → get_or s l 0 ≡ 1 → ⊥
unfolding has
byte_out s l e = eqb-false (get_or s l 0) 1 e

pub in_below : (s : List ℕ) (l : ℕ) → In s l → l < length s
in_below s l e = go (dec_lt l (length s))
  where
    go : Dec (l < length s) → l < length s
    go (yes h) = h
    go (no h) = omega (arith, get_or-eq_default s 0 {n = l} (omega arith), byte_in s l e)

-- ---- a literal is added
module _ (s : List ℕ) (w : ℕ) (h : w < length s) where
  pub set_same : In (set s w 1) w
  set_same = in_byte (set s w 1) w (get_or-set_same s w 1 0 h)

  set_other : (l : ℕ) → (l ≡ w → ⊥) → has (set s w 1) l ≡ has s l
  unfolding has
  set_other l ne = rw (get_or-set_other s w l 1 0 ne)

  pub set_in : Part s (set s w 1)
  set_in l e = go (ℕ_discrete l w)
    where
      go : Dec (l ≡ w) → In (set s w 1) l
      go (yes q) = rw q set_same
      go (no ne) = set_other l ne ∙ e

  pub in_set : (l : ℕ) → In (set s w 1) l → (l ≡ w) ⊎ In s l
  in_set l e = go (ℕ_discrete l w)
    where
      go : Dec (l ≡ w) → (l ≡ w) ⊎ In s l
      go (yes q) = inl q
      go (no ne) = inr (sym (set_other l ne) ∙ e)

  -- a set that holds s and the literal
  pub set_least : (T : List ℕ) → Part s T → In T w → Part (set s w 1) T
  set_least T p q l e = ⊎_elim (λ z. rw z q) (λ z. p l z) (in_set l e)

  set_consistent : (Clash s → ⊥) → has s (complement w) ≡ false → Clash (set s w 1) → ⊥
  set_consistent consistent e c = both c.it (in_set c.it c.here) (in_set (complement c.it) c.there)
    where
      both : (l : ℕ) → (l ≡ w) ⊎ In s l → (complement l ≡ w) ⊎ In s (complement l) → ⊥
      both l (inl p) (inl q) = complement_other w (ap complement (sym p) ∙ q)
      both l (inl p) (inr q) = never {A = ⊥} (rw p at q) e
      both l (inr p) (inl q) = never {A = ⊥} (rw (sym (complement_back l) ∙ ap complement q) at p) e
      both l (inr p) (inr q) = consistent (record { it = l; here = p; there = q })

  -- where propagation stops at a complement, none is there
  pub set_sound : (stops : Bool) → Sound stops s → (stops ≡ true → has s (complement w) ≡ false) → Sound stops (set s w 1)
  set_sound stops sound off e = set_consistent (sound e) (off e)

pub zeros_set : (s : List ℕ) (w : ℕ) → w < length s → get_or s w 0 ≡ 0 → zeros (set s w 1) < zeros s
unfolding zeros
zeros_set [] w h e = absurd (omega arith)
zeros_set (b ∷ bs) zero h e = omega arith
zeros_set (b ∷ bs) (suc w) h e = omega (arith, zeros_set bs w (omega arith) e)

-- ---- what a clause forces
module _ (s : List ℕ) (l : ℕ) (f : List ℕ) where
  pub forces_in : forces s l f ≡ true → Memᴰ l f
  unfolding forces
  forces_in e = member_of l f (and_left (member l f) (all (λ m. eqb m l || has s (complement m)) f) e)

  pub forces_others : forces s l f ≡ true → (m : ℕ) → Memᴰ m f → (m ≡ l → ⊥) → In s (complement m)
  unfolding forces
  forces_others e m mm ne =
      ⊎_elim (λ q. absurd (ne (eqb-true m l q))) (λ q. q)
      (or_cases (eqb m l) (has s (complement m))
      (all_at (λ m. eqb m l || has s (complement m)) (and_right (member l f) (all (λ m. eqb m l || has s (complement m)) f) e) mm))

  pub forces_by : Memᴰ l f → ((m : ℕ) → Memᴰ m f → (m ≡ l → ⊥) → In s (complement m)) → forces s l f ≡ true
  unfolding forces
  forces_by ml h = and_both (member_in ml) (all_of (λ m. eqb m l || has s (complement m)) f (λ m mm. go m mm (decide (eqb m l))))
    where
      go : (m : ℕ) → Memᴰ m f → (eqb m l ≡ true) ⊎ (eqb m l ≡ false) → (eqb m l || has s (complement m)) ≡ true
      go m mm (inl q) = or_left (has s (complement m)) q
      go m mm (inr q) = or_right (eqb m l) (h m mm (eqb-false m l q))

-- a larger set forces as much
pub forces_more : (s T : List ℕ) (l : ℕ) (f : List ℕ) → Part s T → forces s l f ≡ true → forces T l f ≡ true
forces_more s T l f sub e = forces_by T l f (forces_in s l f e) (λ m mm ne. sub (complement m) (forces_others s l f e m mm ne))

-- ---- contradictions
pub clash_of : (N : ℕ) (S : List ℕ) → contradictory N S ≡ true → Clash S
unfolding contradictory
clash_of N S e =
    let w = any_of (λ l. has S l && has S (complement l)) (below (2 * N)) e in
    record {
      it = w.it;
      here = and_left (has S w.it) (has S (complement w.it)) w.passes;
      there = and_right (has S w.it) (has S (complement w.it)) w.passes;
    }

pub clash_any : (N : ℕ) (S : List ℕ) (c : Clash S) → c.it < 2 * N → contradictory N S ≡ true
unfolding contradictory
clash_any N S c h = any_in (λ l. has S l && has S (complement l)) (below_in (2 * N) c.it h) (and_both c.here c.there)
