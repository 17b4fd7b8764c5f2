-- The initial values: the walk that lowers them, and what it makes of the groups. Assumes nothing.
use mathlib.Core.Bool.{Bool, true, false, ◌||◌, cond}
use mathlib.Core.Logic.{◌⊎◌, inl, inr}
use mathlib.Core.Path.{◌≡◌, refl, sym, ◌∙◌, ap}
use mathlib.Core.List.{List, [], ◌∷◌, ◌++◌, append_assoc, map}
use mathlib.Core.List.Memᴰ
use mathlib.Core.List.{Memᴰ}
use Prim.Native.Nat.{ℕ, suc, ◌+◌, ◌-◌, ◌*◌, ◌≤◌, ◌<◌, min}
use native.Mathlib.Decide.{ℕ_discrete}
use native.Mathlib.Omega.{arith}
use lib.Dec.{eqb, ltb}
use lib.ListN.{length, get_or, set, take, drop, length-map, length-set, drop_of_length-le}
use lib.Seq.{sets-eq, get_or-set_same, get_or-set_other, get_or-take, ext_get_or, take_at, drop_at, length-take-le}
use borrow.Author.Tests.{eq-eqb, ne_eqb, ltb-true}
use Rattle.definitions.specs.Lists.{any, all, member}
use Rattle.definitions.specs.Literal.{all_below, state_of}
use Rattle.definitions.specs.Image.{Task, initial_state}
use Rattle.definitions.specs.Groups.{groups_below, groups, place_in}
use Rattle.definitions.specs.Encoding.{value_in}
use Rattle.definitions.proofs.ListLaws.{or_left, or_right, or_assoc, and_left, and_right, table_at, get_or_map_low}
use Rattle.definitions.proofs.Walks.{left_here}
use Rattle.definitions.proofs.GroupLaws.{in_mem, mem_in, all_below_lem}
use Rattle.definitions.proofs.PlaceLaws as places
use Rattle.cover.specs.Join.{Placed}
use Rattle.cover.specs.Cover.{Covered}
use Rattle.cover.proofs.Joining.{at_variable, variable_at, variable_low}
use Rattle.writing.specs.Writing.{Wrote}
use Rattle.writing.proofs.Writes.{wrote_size, wrote_between}
use Rattle.definitions.proofs.LiteralLaws.{low_at}
use Rattle.reencoding.specs.Words.{atoms_of, AtomsGiven}
use Rattle.reencoding.specs.Parts.{lower, lowered}

-- ---- the walk over the true atoms
place_inside : (places : List ℕ) (a : ℕ) → a < atoms_of places → 2 * a + 1 < length places
unfolding atoms_of
place_inside places a h = omega arith

module _ (places trues : List ℕ) (i : ℕ) where
  module _ (a : ℕ) (h : i < length trues) (ea : a ≡ get_or trues i 0) where
    pub lowered_next :
        (v : ℕ) (vs vs' : List ℕ) → v ≡ get_or places (2 * a) 0 → vs' ≡ lower vs v (get_or places (2 * a + 1) 0)
        → lowered places (drop i trues) vs ≡ lowered places (drop (i + 1) trues) vs'
    unfolding lowered
    lowered_next v vs vs' ev e = rw (left_here trues i 0 a ea h, e, ev)

    -- the place of the atom at i, and its variable
    pub true_given : {n : ℕ} → AtomsGiven places trues n → (2 * a + 1 < length places) × (get_or places (2 * a) 0 < n)
    true_given g =
        let low : a < atoms_of places = omega (arith, low_at (atoms_of places) trues i g.below h) in
        (place_inside places a low, g.variable a low)

  pub lowered_end : (vs : List ℕ) → length trues ≤ i → lowered places (drop i trues) vs ≡ vs
  unfolding lowered
  lowered_end vs h = rw (drop_of_length-le trues {i = i} h)

pub lowered_length : (places trues vs : List ℕ) → length (lowered places trues vs) ≡ length vs
unfolding lowered lower
lowered_length places [] vs = refl
lowered_length places (a ∷ trues) vs =
    lowered_length places trues (set vs (get_or places (2 * a) 0) (min (get_or vs (get_or places (2 * a) 0) 0) (get_or places (2 * a + 1) 0)))
    ∙ length-set vs (get_or places (2 * a) 0) (min (get_or vs (get_or places (2 * a) 0) 0) (get_or places (2 * a + 1) 0))

-- ---- words that are changed where they were written
module _ (t : List ℕ) (at : ℕ) (vs t' : List ℕ) (end : ℕ) (w : Wrote t at vs t' end) (room : at + length vs ≤ length t) where
  front : length (take at t) ≡ at
  front = length-take-le at t (omega arith)

  pub words_end : end ≤ length t'
  words_end = let n = w.next in let a = wrote_size w in omega arith

  after : drop at t' ≡ vs ++ drop (at + length vs) t
  after = rw (wrote_between room w, append_assoc (take at t) vs (drop (at + length vs) t)) (drop_at (take at t) (vs ++ drop (at + length vs) t) at front)

  pub part_is : take (end - at) (drop at t') ≡ vs
  part_is =
      let n = w.next in
      let e : end - at ≡ length vs = omega arith in
      rw (e, after) (take_at vs (drop (at + length vs) t) (length vs) refl)

  front_stays : take at t' ≡ take at t
  front_stays =
      rw (wrote_between room w, append_assoc (take at t) vs (drop (at + length vs) t)) (take_at (take at t) (vs ++ drop (at + length vs) t) at front)

  back_stays : drop (end - at) (drop at t') ≡ drop (at + length vs) t
  back_stays =
      let n = w.next in
      let e : end - at ≡ length vs = omega arith in
      rw (e, after) (drop_at vs (drop (at + length vs) t) (length vs) refl)

  -- the words become others in their place
  pub wrote_again : (vs' : List ℕ) → length vs' ≡ length vs → Wrote t at vs' (take at t' ++ (vs' ++ drop (end - at) (drop at t'))) end
  wrote_again vs' e =
      record {
        target = rw (front_stays, back_stays, ← e, ← append_assoc (take at t) vs' (drop (at + length vs') t)) (sym (sets-eq vs' t at (omega arith)));
        next = (let n = w.next in omega arith);
      }

  pub wrote_lowered :
      (places trues vs' : List ℕ) → vs' ≡ lowered places trues (take (end - at) (drop at t'))
      → Wrote t at (lowered places trues vs) (take at t' ++ (vs' ++ drop (end - at) (drop at t'))) end
  wrote_lowered places trues vs' e =
      let same : vs' ≡ lowered places trues vs = e ∙ ap (lowered places trues) part_is in
      rw (← same) (wrote_again vs' (ap length same ∙ lowered_length places trues vs))

-- ---- the first place in a group of an atom that passes a test, or the place after the last
first_by : (ℕ → Bool) → ℕ → List ℕ → ℕ
first_by p i [] = i
first_by p i (a ∷ g) = elim (p a) [ true ↦ i | false ↦ first_by p (suc i) g ]

module _ (p : ℕ → Bool) where
  first_here : (i a : ℕ) (g : List ℕ) → p a ≡ true → first_by p i (a ∷ g) ≡ i
  unfolding first_by
  first_here i a g e = rw (e, first_by)

  first_on : (i a : ℕ) (g : List ℕ) → p a ≡ false → first_by p i (a ∷ g) ≡ first_by p (suc i) g
  unfolding first_by
  first_on i a g e = rw (e, first_by)

  first_low : (i : ℕ) (g : List ℕ) → i ≤ first_by p i g
  unfolding first_by
  first_low i [] = omega arith
  first_low i (a ∷ g) = go (p a) refl (first_low (suc i) g)
    where
      go : (b : Bool) → p a ≡ b → suc i ≤ first_by p (suc i) g → i ≤ first_by p i (a ∷ g)
      go true e rec = rw (first_here i a g e) (omega arith)
      go false e rec = rw (first_on i a g e) (omega arith)

  first_none : (i : ℕ) (g : List ℕ) → ((a : ℕ) → Memᴰ a g → p a ≡ false) → first_by p i g ≡ i + length g
  unfolding first_by
  first_none i [] h = omega arith
  first_none i (a ∷ g) h =
      first_on i a g (h a (Memᴰ.head refl)) ∙ (let r = first_none (suc i) g (λ b m. h b (Memᴰ.tail m)) in omega arith)

first_same : (p q : ℕ → Bool) (i : ℕ) (g : List ℕ) → ((a : ℕ) → Memᴰ a g → p a ≡ q a) → first_by p i g ≡ first_by q i g
unfolding first_by
first_same p q i [] h = refl
first_same p q i (a ∷ g) h = go (q a) refl (first_same p q (suc i) g (λ b m. h b (Memᴰ.tail m)))
  where
    go : (b : Bool) → q a ≡ b → first_by p (suc i) g ≡ first_by q (suc i) g → first_by p i (a ∷ g) ≡ first_by q i (a ∷ g)
    go true e rec = first_here p i a g (h a (Memᴰ.head refl) ∙ e) ∙ sym (first_here q i a g e)
    go false e rec = first_on p i a g (h a (Memᴰ.head refl) ∙ e) ∙ rec ∙ sym (first_on q i a g e)

place_low : (x i : ℕ) (g : List ℕ) → i ≤ place_in x i g
unfolding place_in
place_low x i [] = omega arith
place_low x i (a ∷ g) = go (eqb x a) refl (place_low x (suc i) g)
  where
    go : (b : Bool) → eqb x a ≡ b → suc i ≤ place_in x (suc i) g → i ≤ place_in x i (a ∷ g)
    go true e rec = rw (e, place_in) (omega arith)
    go false e rec = rw (e, place_in) (omega arith)

-- one atom of the group passes besides
module _ (p : ℕ → Bool) (x : ℕ) where
  more : ℕ → Bool
  more a = p a || eqb a x

  first_more : (i : ℕ) (g : List ℕ) → Memᴰ x g → first_by more i g ≡ min (first_by p i g) (place_in x i g)
  unfolding place_in more
  first_more i [] m = absurd (Memᴰ.not-nil m)
  first_more i (a ∷ g) m = go (p a) refl (ℕ_discrete x a) (Memᴰ.cases_cons m) (λ k. first_more (suc i) g k)
    where
      go :
          (b : Bool) → p a ≡ b → Dec (x ≡ a) → (x ≡ a) ⊎ Memᴰ x g
          → (Memᴰ x g → first_by more (suc i) g ≡ min (first_by p (suc i) g) (place_in x (suc i) g))
          → first_by more i (a ∷ g) ≡ min (first_by p i (a ∷ g)) (place_in x i (a ∷ g))
      go true e d c rec =
          let h = place_low x i (a ∷ g) in
          first_here more i a g (or_left (eqb a x) e) ∙ rw (first_here p i a g e) (omega arith)
      go false e (yes s) c rec =
          let h = first_low p (suc i) g in
          first_here more i a g (or_right (p a) (eq-eqb a x (sym s)))
          ∙ rw (first_on p i a g e, eq-eqb x a s, place_in) (omega arith)
      go false e (no s) (inl t) rec = absurd (s t)
      go false e (no s) (inr k) rec =
          first_on more i a g (rw e (ne_eqb a x (λ t. s (sym t)))) ∙ rec k ∙ rw (first_on p i a g e, ne_eqb x a s, place_in)

-- ---- the values of the groups, lowered to all true atoms
module _ (N : ℕ) (C : List (List ℕ)) (ps : List ℕ) (placed : Placed C N ps) where
  abbrev G : List (List ℕ)
  G = groups_below C N

  -- each value is the first place of an atom that passes
  Holds : (ℕ → Bool) → List ℕ → Type 0
  Holds p vs = (v : ℕ) → v < length G → get_or vs v 0 ≡ first_by p 0 (get_or G v [])

  holds_lower :
      (p : ℕ → Bool) (vs : List ℕ) (a : ℕ) → a < N → length vs ≡ length G → Holds p vs
      → Holds (more p a) (lower vs (get_or ps (2 * a) 0) (get_or ps (2 * a + 1) 0))
  unfolding Holds lower more places.var places.val groups
  holds_lower p vs a low size h v inside = go (ℕ_discrete v w)
    where
      w : ℕ
      w = get_or ps (2 * a) 0

      x : ℕ
      x = get_or ps (2 * a + 1) 0

      mine : Memᴰ a (get_or G w [])
      mine = in_mem G w a (at_variable C N ps placed a low)

      value : x ≡ place_in a 0 (get_or G w [])
      value = placed.value a low ∙ (places.placed N C a low).place ∙ ap (λ (k : ℕ). place_in a 0 (get_or G k [])) (sym (placed.variable a low))

      go : Dec (v ≡ w) → get_or (set vs w (min (get_or vs w 0) x)) v 0 ≡ first_by (more p a) 0 (get_or G v [])
      go (yes e) =
          let iw : w < length G = variable_low C N ps placed a low in
          let hw : get_or vs w 0 ≡ first_by p 0 (get_or G w []) = h w iw in
          rw e (get_or-set_same vs w (min (get_or vs w 0) x) 0 (omega arith) ∙ rw (hw, value) (sym (first_more p a 0 (get_or G w []) mine)))
      go (no e) =
          get_or-set_other vs w v (min (get_or vs w 0) x) 0 e
          ∙ h v inside
          ∙ first_same p (more p a) 0 (get_or G v [])
          (λ b m.
          sym
          (or-false (p b) (eqb b a)
          (ne_eqb b a (λ s. e (sym (sym (ap (λ (k : ℕ). get_or ps (2 * k) 0) s) ∙ (variable_at C N ps placed v b (mem_in G v b m)).1))))))
        where
          or-false : (y z : Bool) → z ≡ false → (y || z) ≡ y
          or-false true z q = refl
          or-false false z q = q

  holds_lowered :
      (trues : List ℕ) (p : ℕ → Bool) (vs : List ℕ) → all_below N trues ≡ true → length vs ≡ length G → Holds p vs
      → Holds (λ b. p b || member b trues) (lowered ps trues vs)
  unfolding Holds lowered lower member any all_below all more
  holds_lowered [] p vs low size h v inside = h v inside ∙ first_same p (λ b. p b || false) 0 (get_or G v []) (λ b m. sym (or_nothing (p b)))
    where
      or_nothing : (y : Bool) → (y || false) ≡ y
      or_nothing true = refl
      or_nothing false = refl
  holds_lowered (a ∷ trues) p vs low size h v inside =
      holds_lowered trues (more p a) (lower vs (get_or ps (2 * a) 0) (get_or ps (2 * a + 1) 0))
      (and_right (ltb a N) (all (λ x. ltb x N) trues) low)
      (length-set vs (get_or ps (2 * a) 0) (min (get_or vs (get_or ps (2 * a) 0) 0) (get_or ps (2 * a + 1) 0)) ∙ size)
      (holds_lower p vs a (ltb-true a N (and_left (ltb a N) (all (λ x. ltb x N) trues) low)) size h) v inside
      ∙ first_same (λ b. more p a b || any (eqb b) trues) (λ b. p b || (eqb b a || any (eqb b) trues)) 0 (get_or G v [])
      (λ b m. sym (or_assoc (p b) (eqb b a) (any (eqb b) trues)))

-- ---- the values of the initial state
value_first : (s : List ℕ) (i : ℕ) (g : List ℕ) → value_in s i g ≡ first_by (λ a. eqb (get_or s a 0) 1) i g
unfolding value_in first_by
value_first s i [] = refl
value_first s i (a ∷ g) = go (eqb (get_or s a 0) 1) refl (value_first s (suc i) g)
  where
    go :
        (b : Bool) → eqb (get_or s a 0) 1 ≡ b → value_in s (suc i) g ≡ first_by (λ a. eqb (get_or s a 0) 1) (suc i) g
        → value_in s i (a ∷ g) ≡ first_by (λ a. eqb (get_or s a 0) 1) i (a ∷ g)
    go true e rec = rw (e, value_in) (sym (first_here (λ a. eqb (get_or s a 0) 1) i a g e))
    go false e rec = rw (e, value_in) (rec ∙ sym (first_on (λ a. eqb (get_or s a 0) 1) i a g e))

initial_true : (t : Task) (a : ℕ) → a < t.atoms → eqb (get_or (initial_state t) a 0) 1 ≡ member a t.initial
unfolding initial_state state_of
initial_true t a h = rw (table_at (state_of t.initial) t.atoms a h) (go (member a t.initial))
  where
    go : (b : Bool) → eqb (cond b 1 0) 1 ≡ b
    go true = refl
    go false = refl

pub initial_are :
    (t : Task) (C : List (List ℕ)) (ps ss ns : List ℕ) (n : ℕ) → Covered t.atoms C ps ss ns n → all_below t.atoms t.initial ≡ true
    → map (value_in (initial_state t) 0) (groups t.atoms C) ≡ lowered ps t.initial (take n ss)
unfolding groups Holds
initial_are t C ps ss ns n cov low =
    ext_get_or 0 (map (value_in (initial_state t) 0) (groups_below C t.atoms)) (lowered ps t.initial (take n ss)) sizes same
  where
    GG : List (List ℕ)
    GG = groups_below C t.atoms

    count : n ≡ length GG
    count = cov.grouped.count

    taken : length (take n ss) ≡ n
    taken = length-take-le n ss (let a = cov.sizes in let b = cov.grouped.few in let c = cov.few in omega arith)

    sizes : length (map (value_in (initial_state t) 0) GG) ≡ length (lowered ps t.initial (take n ss))
    sizes = length-map GG (value_in (initial_state t) 0) ∙ sym (lowered_length ps t.initial (take n ss) ∙ taken ∙ count)

    start : (v : ℕ) → v < length GG → get_or (take n ss) v 0 ≡ first_by (λ a. false) 0 (get_or GG v [])
    start v h =
        get_or-take n ss v 0 (omega arith)
        ∙ cov.grouped.size v
        ∙ sym (first_none (λ a. false) 0 (get_or GG v []) (λ a m. refl) ∙ omega arith)

    same :
        (v : ℕ) → v < length (map (value_in (initial_state t) 0) GG)
        → get_or (map (value_in (initial_state t) 0) GG) v 0 ≡ get_or (lowered ps t.initial (take n ss)) v 0
    same v h =
        let l = length-map GG (value_in (initial_state t) 0) in
        let inside : v < length GG = omega arith in
        get_or_map_low (value_in (initial_state t) 0) GG v [] 0 inside
        ∙ value_first (initial_state t) 0 (get_or GG v [])
        ∙ first_same (λ a. eqb (get_or (initial_state t) a 0) 1) (λ a. false || member a t.initial) 0 (get_or GG v [])
        (λ a m. initial_true t a (all_below_lem C t.atoms v a (mem_in GG v a m)))
        ∙ sym (holds_lowered t.atoms C ps cov.grouped.placed t.initial (λ a. false) (take n ss) low (taken ∙ count) start v inside)
