-- The literals of a list are added to a set, one after the other. Assumes nothing.
use mathlib.Core.Path.{◌≡◌, refl, sym, ◌∙◌, ap, subst}
use mathlib.Core.Bool.{Bool, true, false, false≢true, cond, ◌&&◌}
use mathlib.Core.Logic.{◌⊎◌, inl, inr, ⊎_elim}
use mathlib.Core.List.{List, [], ◌∷◌}
use Prim.Native.Nat.{ℕ, ◌+◌, ◌*◌, ◌/◌, ◌≤◌, ◌<◌}
use native.Mathlib.Omega.{arith}
use lib.Dec.{eqb}
use lib.ListN.{length, get_or, drop, set}
use borrow.Author.Tests.{eqb-true}
use Rattle.definitions.specs.Lists.{any, member}
use Rattle.definitions.specs.Literal.{complement, all_below}
use Rattle.definitions.specs.Closure.{has}
use Rattle.definitions.specs.Marks.{marked}
use Rattle.definitions.proofs.MarkBits.{mark_inside}
use Rattle.definitions.proofs.ListLaws.{or_cases, member_in, get_or_mem, and_left, and_right}
use Rattle.definitions.proofs.Walks.{left_here, any_end}
use Rattle.propagation.specs.declared.Pass.{Pass}
use Rattle.propagation.specs.declared.Pass.TheVariants.{Same, Grown, Contradictory}
use Rattle.propagation.specs.Walk.{set_of, In, Part, Lists, Sound, zeros, RestKept, Adds, Room, Seeded}
use Rattle.propagation.proofs.Sets.{complement_below, set_same, set_in, set_least, set_sound, zeros_set}
use Rattle.propagation.proofs.View.{view_has, view_zero, view_inside, view_more, rest_self, rest_on, rest_more}
use Rattle.propagation.proofs.MarkedSets.{place_below}

-- the set s₀ at the start, the set s now, and the answer so far
abbrev pub Growth : List ℕ → List ℕ → Pass → Type 0
Growth s₀ s Same = s ≡ s₀
Growth s₀ s Grown = zeros s < zeros s₀
Growth s₀ s Contradictory = ⊥

pub grows : (s₀ s t : List ℕ) (answer : Pass) → Growth s₀ s answer → zeros t < zeros s → zeros t < zeros s₀
grows s₀ s t Same e z = rw e at z
grows s₀ s t Grown p z = omega arith
grows s₀ s t Contradictory p z = absurd p

pub record Seeding (stops : Bool) (s₀ ls s : List ℕ) (i : ℕ) (answer : Pass) : Type 0 where
  pub most : i ≤ length ls
  pub sound : Sound stops s
  pub above : Part s₀ s
  pub holds : (l : ℕ) → member l ls ≡ true → In s l ⊎ (member l (drop i ls) ≡ true)
  pub least : (T : List ℕ) → Part s₀ T → Lists ls T → Part s T
  pub growth : Growth s₀ s answer

pub seed_start : (stops : Bool) (s ls : List ℕ) → Sound stops s → Seeding stops s ls s 0 Same
seed_start stops s ls sound =
    record { most = omega arith; sound = sound; above = λ l p. p; holds = λ l m. inr m; least = λ T p q. p; growth = refl }

module _ (stops : Bool) (s₀ ls s : List ℕ) (i x : ℕ) (answer : Pass) (k : Seeding stops s₀ ls s i answer) (at : x ≡ get_or ls i 0)
    (inside : i < length ls) where
  listed : member x ls ≡ true
  listed = rw at (member_in (get_or_mem ls i 0 inside))

  -- the complement is there
  pub seed_clash : stops ≡ true → In s (complement x) → Seeded stops s₀ ls s Contradictory
  seed_clash e c = (e, λ T p q. record { it = x; here = q x listed; there = k.least T p q (complement x) c })

  -- what is left is the literal itself and those after it
  left : (T : List ℕ) → Part s T → In T x → (l : ℕ) → member l ls ≡ true → In T l ⊎ (member l (drop (i + 1) ls) ≡ true)
  unfolding member any
  left T up here l m =
      ⊎_elim (λ p. inl (up l p)) (λ z. next (or_cases (eqb l x) (member l (drop (i + 1) ls)) (rw (left_here ls i 0 x at inside) at z)))
      (k.holds l m)
    where
      next : (eqb l x ≡ true) ⊎ (member l (drop (i + 1) ls) ≡ true) → In T l ⊎ (member l (drop (i + 1) ls) ≡ true)
      next (inl e) = inl (rw (eqb-true l x e) here)
      next (inr z) = inr z

  -- the literal is there
  pub seed_same : In s x → Seeding stops s₀ ls s (i + 1) answer
  seed_same here =
      record { most = omega arith; sound = k.sound; above = k.above; holds = left s (λ l p. p) here; least = k.least; growth = k.growth }

  -- it is new
  pub seed_more :
      x < length s → get_or s x 0 ≡ 0 → (stops ≡ true → has s (complement x) ≡ false) → Seeding stops s₀ ls (set s x 1) (i + 1) Grown
  seed_more b none off =
      record {
        most = omega arith;
        sound = set_sound s x b stops k.sound off;
        above = λ l p. set_in s x b l (k.above l p);
        holds = left (set s x 1) (set_in s x b) (set_same s x b);
        least = λ T p q. set_least s x b T (k.least T p q) (q x listed);
        growth = grows s₀ s (set s x 1) answer k.growth (zeros_set s x b none);
      }

-- the whole list
pub seed_end :
    (stops : Bool) (s₀ ls s : List ℕ) (i : ℕ) (answer : Pass) → Seeding stops s₀ ls s i answer → length ls ≤ i
    → Seeded stops s₀ ls s answer
unfolding member
seed_end stops s₀ ls s i answer k past = go answer k.growth
  where
    all : Lists ls s
    all l m = ⊎_elim (λ p. p) (λ z. absurd (false≢true (sym (any_end (eqb l) ls i past) ∙ z))) (k.holds l m)

    go : (answer : Pass) → Growth s₀ s answer → Seeded stops s₀ ls s answer
    go Same e = (e, rw e at all)
    go Grown z = (record { sound = k.sound; above = k.above; holds = all; least = k.least }, z)
    go Contradictory p = absurd p

-- the same of marks, where the literal is marked
unfoldable pub grown_if : Bool → Pass → Pass
grown_if b answer = cond b Grown answer

module _ (stops : Bool) (N : ℕ) (s₀ ls ms ms' : List ℕ) (i x : ℕ) (answer : Pass) (k : Seeding stops s₀ ls (set_of N ms) i answer)
    (at : x ≡ get_or ls i 0) (inside : i < length ls) (low : x < 2 * N) (off : stops ≡ true → has (set_of N ms) (complement x) ≡ false) where
  pub seed_adds : (b : Bool) → Adds ms x ms' b → RestKept N ms ms' × Seeding stops s₀ ls (set_of N ms') (i + 1) (grown_if b answer)
  unfolding grown_if
  seed_adds true more = (
    rest_more N ms ms' x low more,
    subst (λ (s : List ℕ). Seeding stops s₀ ls s (i + 1) Grown) (sym (view_more N ms ms' x low more))
        (seed_more stops s₀ ls (set_of N ms) i x answer k at inside (view_inside N ms x low) (view_zero N ms x low more.was_not) off),
  )
  seed_adds false same =
      subst (λ (s : List ℕ). RestKept N ms s × Seeding stops s₀ ls (set_of N s) (i + 1) answer) (sym same.0)
      (rest_self N ms, seed_same stops s₀ ls (set_of N ms) i x answer k at inside (view_has N ms x low ∙ same.1))

-- the literal at i of a list of literals of N atoms: ms₀ are the marks at the start, ms those now
module _ (stops : Bool) (N : ℕ) (ms₀ ms ls : List ℕ) (i : ℕ) (room : Room stops N ms₀) (below : all_below (2 * N) ls ≡ true)
    (rest : RestKept N ms₀ ms) (inside : i < length ls) where
  seed_low : get_or ls i 0 < 2 * N
  seed_low = place_below (2 * N) ls i (get_or ls i 0) below refl inside

  seed_other : complement (get_or ls i 0) < 2 * N
  seed_other = complement_below (get_or ls i 0) (2 * N) (omega arith) seed_low

  byte_there : (l : ℕ) → l < 2 * N → l / 8 < length ms
  byte_there l h = omega (arith, mark_inside N l h, room.room, rest.same_length)

  pub seed_asks : (get_or ls i 0 < 65535) × (complement (get_or ls i 0) / 8 < length ms)
  seed_asks = (omega (arith, seed_low, room.few), byte_there (complement (get_or ls i 0)) seed_other)

  pub seed_inside : (x : ℕ) → x ≡ get_or ls i 0 → x / 8 < length ms
  seed_inside x e = rw e (byte_there (get_or ls i 0) seed_low)

  module _ (answer : Pass) (k : Seeding stops (set_of N ms₀) ls (set_of N ms) i answer) (b : Bool)
      (test : b ≡ (stops && marked ms (complement (get_or ls i 0)))) where
    -- it stops there
    pub seed_met : b ≡ true → Seeded stops (set_of N ms₀) ls (set_of N ms) Contradictory
    seed_met e =
        let both : (stops && marked ms (complement (get_or ls i 0))) ≡ true = sym test ∙ e in
        seed_clash stops (set_of N ms₀) ls (set_of N ms) i (get_or ls i 0) answer k refl inside (and_left stops (marked ms (complement (get_or ls i 0))) both)
        (view_has N ms (complement (get_or ls i 0)) seed_other ∙ and_right stops (marked ms (complement (get_or ls i 0))) both)

    off : b ≡ false → stops ≡ true → has (set_of N ms) (complement (get_or ls i 0)) ≡ false
    off e s = view_has N ms (complement (get_or ls i 0)) seed_other ∙ sym (ap (λ (t : Bool). t && marked ms (complement (get_or ls i 0))) s) ∙ sym test ∙ e

    -- it goes on
    pub seed_on :
        b ≡ false → (x : ℕ) (ms' : List ℕ) (new : Bool) → x ≡ get_or ls i 0 → Adds ms x ms' new
        → RestKept N ms₀ ms' × Seeding stops (set_of N ms₀) ls (set_of N ms') (i + 1) (grown_if new answer)
    seed_on e x ms' new at adds =
        let r = seed_adds stops N (set_of N ms₀) ls ms ms' i (get_or ls i 0) answer k refl inside seed_low (off e) new (rw at at adds) in
        (rest_on N ms₀ ms ms' rest r.0, r.1)

-- a list of one literal
pub one_added :
    (stops : Bool) (N : ℕ) (ms ms' : List ℕ) (x : ℕ) → Sound stops (set_of N ms) → x < 2 * N → has (set_of N ms) (complement x) ≡ false
    → (b : Bool) → Adds ms x ms' b → RestKept N ms ms' × Seeded stops (set_of N ms) (x ∷ []) (set_of N ms') (grown_if b Same)
one_added stops N ms ms' x sound low off b adds =
    let s = set_of N ms in
    let r = seed_adds stops N s (x ∷ []) ms ms' 0 x Same (seed_start stops s (x ∷ []) sound) refl (omega arith) low (λ e. off) b adds in
    (r.0, seed_end stops s (x ∷ []) (set_of N ms') 1 (grown_if b Same) r.1 (omega arith))
