-- One atom joins the groups: what the code's marks say of them, and what the places and sizes become. Assumes nothing.
use mathlib.Core.Bool.{Bool, true, false, not, ◌||◌}
use mathlib.Core.Logic.{◌⊎◌, inl, inr}
use mathlib.Core.Path.{◌≡◌, refl, sym, ◌∙◌, ap}
use mathlib.Core.List.Memᴰ
use mathlib.Core.List.{List, [], ◌∷◌, ◌++◌, Memᴰ}
use Prim.Native.Nat.{ℕ, zero, suc, ◌+◌, ◌*◌, ◌≤◌, ◌<◌, max}
use native.Mathlib.Numerals.{add-one}
use native.Mathlib.Decide.{dec_lt, ℕ_discrete}
use native.Mathlib.Omega.{arith}
use lib.Dec.{eqb}
use lib.ListN.{length, get_or, set, replicate, length-set, length-append}
use lib.Seq.{get_or-set_same, get_or-set_other}
use borrow.Author.Tests.{eqb-false, eq-eqb, ne_eqb}
use Rattle.definitions.specs.Lists.{any, all, member}
use Rattle.definitions.specs.Groups.{mutex, join, groups_below, groups, Place, place_in, place_of}
use Rattle.definitions.proofs.ListLaws.{decide, never, all_at, all_of, member_in, member_of, or_right}
use Rattle.definitions.proofs.Walks.{zero_at}
use Rattle.definitions.proofs.GroupLaws.{In, in_low, in_mem, mem_in, all_below_lem, group_of}
use Rattle.definitions.proofs.PlaceLaws as places
use Rattle.literal.specs.Mark.{mark_if}
use Rattle.cover.specs.Join.{Apart, Lowest, Joins, Placed, Grouped}

-- ---- marks of the groups that atom a cannot join
module _ (C : List (List ℕ)) (places : List ℕ) (a : ℕ) where
  pub apart_start : (apart : List ℕ) (n : ℕ) → apart ≡ replicate n 0 → Apart C places a 0 apart
  apart_start apart n e =
      record {
        clean = λ x h z. absurd (omega arith);
        marked = λ g h. absurd (h (rw e (zero_at g n)));
      }

  pub apart_on :
      (b : ℕ) (apart after : List ℕ) (m : Bool) (g : ℕ) → Apart C places a b apart → m ≡ mutex C a b → g ≡ get_or places (2 * b) 0 → g < length apart
      → after ≡ mark_if (not m) apart g → Apart C places a (b + 1) after
  apart_on b apart after m g h em eg inside e = go m em e
    where
      go : (m : Bool) → m ≡ mutex C a b → after ≡ mark_if (not m) apart g → Apart C places a (b + 1) after
      go true em e =
          record {
            clean = λ x low z. clean x (dec_lt x b) low z;
            marked = λ k q. let r = h.marked k (λ z. q (rw e z)) in (r.0, (let l = r.1 in omega arith), r.2, r.3);
          }
        where
          clean : (x : ℕ) → Dec (x < b) → x < b + 1 → get_or after (get_or places (2 * x) 0) 0 ≡ 0 → mutex C a x ≡ true
          clean x (yes l) low z = h.clean x l (rw e at z)
          clean x (no l) low z = let s : x ≡ b = omega arith in rw s (sym em)
      go false em e =
          record {
            clean = λ x low z. clean x (ℕ_discrete (get_or places (2 * x) 0) g) (dec_lt x b) low z;
            marked = λ k q. marked k (ℕ_discrete k g) q;
          }
        where
          same : get_or after g 0 ≡ 1
          same = rw e (get_or-set_same apart g 1 0 inside)

          other : (k : ℕ) → (k ≡ g → ⊥) → get_or after k 0 ≡ get_or apart k 0
          other k ne = rw e (get_or-set_other apart g k 1 0 ne)

          clean : (x : ℕ) → Dec (get_or places (2 * x) 0 ≡ g) → Dec (x < b) → x < b + 1 → get_or after (get_or places (2 * x) 0) 0 ≡ 0 → mutex C a x ≡ true
          clean x (yes s) d low z = let q : get_or after g 0 ≡ 0 = rw s at z in let t = same in absurd (omega arith)
          clean x (no s) (yes l) low z = h.clean x l (sym (other (get_or places (2 * x) 0) s) ∙ z)
          clean x (no s) (no l) low z =
              let t : x ≡ b = omega arith in
              absurd (s (ap (λ (y : ℕ). get_or places (2 * y) 0) t ∙ sym eg))

          marked : (k : ℕ) → Dec (k ≡ g) → (get_or after k 0 ≡ 0 → ⊥) → (x : ℕ) × (x < b + 1) × (get_or places (2 * x) 0 ≡ k) × (mutex C a x ≡ false)
          marked k (yes s) q = (b, omega arith, sym eg ∙ sym s, sym em)
          marked k (no s) q =
              let r = h.marked k (λ z. q (other k s ∙ z)) in
              (r.0, (let l = r.1 in omega arith), r.2, r.3)

not_all : {A : Type 0} (p : A → Bool) (x : A) (xs : List A) → Memᴰ x xs → p x ≡ false → all p xs ≡ false
not_all p x xs m e = go (decide (all p xs))
  where
    go : (all p xs ≡ true) ⊎ (all p xs ≡ false) → all p xs ≡ false
    go (inl h) = never (all_at p h m) e
    go (inr h) = h

module _ (C : List (List ℕ)) (a : ℕ) (ps : List ℕ) (placed : Placed C a ps) where
  -- an atom's variable is its group
  pub at_variable : (x : ℕ) → x < a → In (groups_below C a) (get_or ps (2 * x) 0) x
  unfolding groups places.var
  at_variable x low = rw (placed.variable x low) (places.placed a C x low).«in»

  pub variable_at : (v x : ℕ) → In (groups_below C a) v x → (x < a) × (get_or ps (2 * x) 0 ≡ v)
  unfolding groups places.var
  variable_at v x m = let r = places.in_var a C v x m in (r.0, placed.variable x r.0 ∙ r.1)

  pub variable_low : (x : ℕ) → x < a → get_or ps (2 * x) 0 < length (groups_below C a)
  variable_low x low = in_low (groups_below C a) (get_or ps (2 * x) 0) x (at_variable x low)

  pub chosen : (apart : List ℕ) (n r : ℕ) → Apart C ps a a apart → n ≡ length (groups_below C a) → Lowest apart n r → Joins C a (groups_below C a) r
  chosen apart n r marks en low =
      record { inside = (let l = low.inside in omega arith); before = before; here = λ h. here h }
    where
      before : (g : ℕ) → g < r → all (mutex C a) (get_or (groups_below C a) g []) ≡ false
      before g h =
          let w = marks.marked g (low.before g h) in
          not_all (mutex C a) w.0 (get_or (groups_below C a) g []) (in_mem (groups_below C a) g w.0 (rw w.2 at (at_variable w.0 w.1))) w.3

      here : r < length (groups_below C a) → all (mutex C a) (get_or (groups_below C a) r []) ≡ true
      here h =
          all_of (mutex C a) (get_or (groups_below C a) r []) (λ x m.
          let v = variable_at r x (mem_in (groups_below C a) r x m) in
          marks.clean x v.0 (rw v.1 (low.here (omega arith))))

-- ---- joining group r
module _ (C : List (List ℕ)) (a : ℕ) where
  joins_tail : (g : List ℕ) (gs : List (List ℕ)) (r : ℕ) → Joins C a (g ∷ gs) (suc r) → Joins C a gs r
  joins_tail g gs r j =
      record {
        inside = (let i = j.inside in omega arith);
        before = λ k h. j.before (suc k) (omega arith);
        here = λ h. j.here (omega arith);
      }

  -- the groups after it
  join_first : (g : List ℕ) (gs : List (List ℕ)) → Joins C a (g ∷ gs) 0 → join C a (g ∷ gs) ≡ (g ++ (a ∷ [])) ∷ gs
  unfolding join
  join_first g gs j = rw (j.here (omega arith), join)

  join_later : (g : List ℕ) (gs : List (List ℕ)) (r : ℕ) → Joins C a (g ∷ gs) (suc r) → join C a (g ∷ gs) ≡ g ∷ join C a gs
  unfolding join
  join_later g gs r j = rw (j.before 0 (omega arith), join)

  pub join_there : (gs : List (List ℕ)) (r : ℕ) → Joins C a gs r → get_or (join C a gs) r [] ≡ get_or gs r [] ++ (a ∷ [])
  unfolding join
  join_there [] zero j = refl
  join_there [] (suc r) j = let i = j.inside in absurd (omega arith)
  join_there (g ∷ gs) zero j = ap (λ (l : List (List ℕ)). get_or l 0 []) (join_first g gs j)
  join_there (g ∷ gs) (suc r) j = ap (λ (l : List (List ℕ)). get_or l (suc r) []) (join_later g gs r j) ∙ join_there gs r (joins_tail g gs r j)

  pub join_else : (gs : List (List ℕ)) (r v : ℕ) → Joins C a gs r → (v ≡ r → ⊥) → get_or (join C a gs) v [] ≡ get_or gs v []
  unfolding join
  join_else [] zero zero j ne = absurd (ne refl)
  join_else [] zero (suc v) j ne = refl
  join_else [] (suc r) v j ne = let i = j.inside in absurd (omega arith)
  join_else (g ∷ gs) zero zero j ne = absurd (ne refl)
  join_else (g ∷ gs) zero (suc v) j ne = ap (λ (l : List (List ℕ)). get_or l (suc v) []) (join_first g gs j)
  join_else (g ∷ gs) (suc r) zero j ne = ap (λ (l : List (List ℕ)). get_or l 0 []) (join_later g gs r j)
  join_else (g ∷ gs) (suc r) (suc v) j ne =
      ap (λ (l : List (List ℕ)). get_or l (suc v) []) (join_later g gs r j)
      ∙ join_else gs r v (joins_tail g gs r j) (λ e. ne (ap suc e))

  pub join_count : (gs : List (List ℕ)) (r : ℕ) → Joins C a gs r → length (join C a gs) ≡ max (length gs) (r + 1)
  unfolding join
  join_count [] zero j = omega arith
  join_count [] (suc r) j = let i = j.inside in absurd (omega arith)
  join_count (g ∷ gs) zero j = ap length (join_first g gs j) ∙ omega arith
  join_count (g ∷ gs) (suc r) j =
      let e = join_count gs r (joins_tail g gs r j) in
      ap length (join_later g gs r j) ∙ omega arith

  -- the place of an atom that is there already
  member_before : (x : ℕ) (g : List ℕ) → (x ≡ a → ⊥) → member x (g ++ (a ∷ [])) ≡ member x g
  unfolding member any
  member_before x [] ne = rw (ne_eqb x a ne)
  member_before x (y ∷ g) ne = ap (λ (b : Bool). eqb x y || b) (member_before x g ne)

  place_before : (x i : ℕ) (g : List ℕ) → Memᴰ x g → place_in x i (g ++ (a ∷ [])) ≡ place_in x i g
  unfolding place_in
  place_before x i [] m = absurd (Memᴰ.not-nil m)
  place_before x i (y ∷ g) m = go (eqb x y) refl (Memᴰ.cases_cons m) (λ k. place_before x (suc i) g k)
    where
      go :
          (b : Bool) → eqb x y ≡ b → (x ≡ y) ⊎ Memᴰ x g → (Memᴰ x g → place_in x (suc i) (g ++ (a ∷ [])) ≡ place_in x (suc i) g)
          → place_in x i (y ∷ (g ++ (a ∷ []))) ≡ place_in x i (y ∷ g)
      go true e c rec = rw (e, place_in)
      go false e (inl h) rec = absurd (eqb-false x y e h)
      go false e (inr k) rec = rw (e, place_in) (rec k)

  -- a place by the first group and by the others
  place_here : (x v : ℕ) (g : List ℕ) (gs : List (List ℕ)) → member x g ≡ true → place_of x v (g ∷ gs) ≡ record { variable = v; value = place_in x 0 g }
  unfolding place_of
  place_here x v g gs e = rw (e, place_of)

  place_on : (x v : ℕ) (g : List ℕ) (gs : List (List ℕ)) → member x g ≡ false → place_of x v (g ∷ gs) ≡ place_of x (suc v) gs
  unfolding place_of
  place_on x v g gs e = rw (e, place_of)

  pub place_old : (gs : List (List ℕ)) (r : ℕ) → Joins C a gs r → (x w : ℕ) → In gs w x → (x ≡ a → ⊥) → (v : ℕ) → place_of x v (join C a gs) ≡ place_of x v gs
  place_old [] r j x w m ne v = absurd m
  place_old (g ∷ gs) zero j x w m ne v =
      ap (place_of x v) (join_first g gs j) ∙ go (member x g) refl
    where
      go : (b : Bool) → member x g ≡ b → place_of x v ((g ++ (a ∷ [])) ∷ gs) ≡ place_of x v (g ∷ gs)
      go true e =
          place_here x v (g ++ (a ∷ [])) gs (member_before x g ne ∙ e)
          ∙ ap (λ (n : ℕ). record { variable = v; value = n }) (place_before x 0 g (member_of x g e))
          ∙ sym (place_here x v g gs e)
      go false e = place_on x v (g ++ (a ∷ [])) gs (member_before x g ne ∙ e) ∙ sym (place_on x v g gs e)
  place_old (g ∷ gs) (suc r) j x w m ne v =
      ap (place_of x v) (join_later g gs r j) ∙ go (member x g) refl w m (λ w k. place_old gs r (joins_tail g gs r j) x w k ne (suc v))
    where
      go :
          (b : Bool) → member x g ≡ b → (w : ℕ) → In (g ∷ gs) w x → ((w : ℕ) → In gs w x → place_of x (suc v) (join C a gs) ≡ place_of x (suc v) gs)
          → place_of x v (g ∷ join C a gs) ≡ place_of x v (g ∷ gs)
      go true e w k rec = place_here x v g (join C a gs) e ∙ sym (place_here x v g gs e)
      go false e zero k rec = never (member_in k) e
      go false e (suc w) k rec = place_on x v g (join C a gs) e ∙ rec w k ∙ sym (place_on x v g gs e)

  -- the place of the atom that joins
  member_last : (g : List ℕ) → member a (g ++ (a ∷ [])) ≡ true
  unfolding member any
  member_last [] = rw (eq-eqb a a refl)
  member_last (y ∷ g) = or_right (eqb a y) (member_last g)

  not_member : (g : List ℕ) → (Memᴰ a g → ⊥) → member a g ≡ false
  not_member g h = go (decide (member a g))
    where
      go : (member a g ≡ true) ⊎ (member a g ≡ false) → member a g ≡ false
      go (inl e) = absurd (h (member_of a g e))
      go (inr e) = e

  place_last : (i : ℕ) (g : List ℕ) → (Memᴰ a g → ⊥) → place_in a i (g ++ (a ∷ [])) ≡ i + length g
  unfolding place_in
  place_last i [] h = rw (eq-eqb a a refl, place_in) (omega arith)
  place_last i (y ∷ g) h =
      rw (ne_eqb a y (λ e. h (Memᴰ.head e)), place_in)
      (let r = place_last (suc i) g (λ m. h (Memᴰ.tail m)) in omega arith)

  pub place_new :
      (gs : List (List ℕ)) (r : ℕ) → Joins C a gs r → ((w : ℕ) → In gs w a → ⊥) → (v : ℕ)
      → place_of a v (join C a gs) ≡ record { variable = v + r; value = length (get_or gs r []) }
  unfolding join place_of place_in member any
  place_new [] zero j no' v = let e : v + 0 ≡ v = omega arith in rw (eq-eqb a a refl, place_of, eq-eqb a a refl, place_in, e)
  place_new [] (suc r) j no' v = let i = j.inside in absurd (omega arith)
  place_new (g ∷ gs) zero j no' v =
      let e : v + 0 ≡ v = omega arith in
      ap (place_of a v) (join_first g gs j)
      ∙ place_here a v (g ++ (a ∷ [])) gs (member_last g)
      ∙ rw (e, place_last 0 g (no' 0))
      (ap (λ (n : ℕ). record { variable = v; value = n }) (omega arith))
  place_new (g ∷ gs) (suc r) j no' v =
      let e : v + suc r ≡ suc v + r = omega arith in
      ap (place_of a v) (join_later g gs r j)
      ∙ place_on a v g (join C a gs) (not_member g (no' 0))
      ∙ rw e (place_new gs r (joins_tail g gs r j) (λ w m. no' (suc w) m) (suc v))

-- ---- the walk over the atoms
module _ (C : List (List ℕ)) where
  pub grouped_start : (ps : List ℕ) (sizes : List ℕ) (n : ℕ) → sizes ≡ replicate n 0 → Grouped C 0 ps sizes 0
  unfolding groups_below
  grouped_start ps sizes n e =
      record {
        placed = record { variable = λ x h. absurd (omega arith); value = λ x h. absurd (omega arith) };
        size = λ v. rw e (zero_at v n);
        count = refl;
        few = omega arith;
        small = λ v. (let z : get_or sizes v 0 ≡ 0 = rw e (zero_at v n) in omega arith);
      }

  module _ (a : ℕ) (ps sizes : List ℕ) (n : ℕ) (grouped : Grouped C a ps sizes n) (r : ℕ) (joins : Joins C a (groups_below C a) r) where
    pub chosen_low : r ≤ n
    chosen_low = let i = joins.inside in let e = grouped.count in omega arith

    pub grouped_on : (ps' sizes' : List ℕ) (n' : ℕ) → 2 * a + 1 < length ps → r < length sizes
        → ps' ≡ set (set ps (2 * a) r) (2 * a + 1) (get_or sizes r 0) → sizes' ≡ set sizes r (get_or sizes r 0 + 1) → n' ≡ max n (r + 1)
        → Grouped C (a + 1) ps' sizes' n'
    unfolding groups_below
    grouped_on ps' sizes' n' inp ins ep es en =
        rw add-one
        (record {
          placed = record { variable = variable; value = value };
          size = λ v. size v (ℕ_discrete v r);
          count = en ∙ rw grouped.count (sym (join_count C a (groups_below C a) r joins));
          few = (let l = chosen_low in let f = grouped.few in omega arith);
          small = λ v. small v (ℕ_discrete v r);
        })
      where
        G : List (List ℕ)
        G = groups_below C a

        inp' : 2 * a < length ps
        inp' = omega arith

        new : place_of a 0 (join C a G) ≡ record { variable = 0 + r; value = length (get_or G r []) }
        new = place_new C a G r joins (λ w m. let h = all_below_lem C a w a m in absurd (omega arith)) 0

        old : (x : ℕ) → x < a → place_of x 0 (join C a G) ≡ place_of x 0 G
        old x h = let m = group_of C a x h in place_old C a G r joins x m.0 m.1 (λ e. absurd (omega arith)) 0

        variable : (x : ℕ) → x < suc a → get_or ps' (2 * x) 0 ≡ (place_of x 0 (join C a G)).variable
        variable x h = go (dec_lt x a)
          where
            go : Dec (x < a) → get_or ps' (2 * x) 0 ≡ (place_of x 0 (join C a G)).variable
            go (yes l) =
                rw ep
                (get_or-set_other (set ps (2 * a) r) (2 * a + 1) (2 * x) (get_or sizes r 0) 0 (λ e. absurd (omega arith))
                ∙ get_or-set_other ps (2 * a) (2 * x) r 0 (λ e. absurd (omega arith))
                ∙ grouped.placed.variable x l
                ∙ sym (ap (λ (p : Place). p.variable) (old x l)))
            go (no l) =
                let s : x ≡ a = omega arith in
                rw (ep, s)
                (get_or-set_other (set ps (2 * a) r) (2 * a + 1) (2 * a) (get_or sizes r 0) 0 (λ e. absurd (omega arith))
                ∙ get_or-set_same ps (2 * a) r 0 inp'
                ∙ sym (ap (λ (p : Place). p.variable) new ∙ omega arith))

        value : (x : ℕ) → x < suc a → get_or ps' (2 * x + 1) 0 ≡ (place_of x 0 (join C a G)).value
        value x h = go (dec_lt x a)
          where
            go : Dec (x < a) → get_or ps' (2 * x + 1) 0 ≡ (place_of x 0 (join C a G)).value
            go (yes l) =
                rw ep
                (get_or-set_other (set ps (2 * a) r) (2 * a + 1) (2 * x + 1) (get_or sizes r 0) 0 (λ e. absurd (omega arith))
                ∙ get_or-set_other ps (2 * a) (2 * x + 1) r 0 (λ e. absurd (omega arith))
                ∙ grouped.placed.value x l
                ∙ sym (ap (λ (p : Place). p.value) (old x l)))
            go (no l) =
                let s : x ≡ a = omega arith in
                rw (ep, s)
                (get_or-set_same (set ps (2 * a) r) (2 * a + 1) (get_or sizes r 0) 0 (rw length-set inp)
                ∙ grouped.size r
                ∙ sym (ap (λ (p : Place). p.value) new))

        size : (v : ℕ) → Dec (v ≡ r) → get_or sizes' v 0 ≡ length (get_or (join C a G) v [])
        size v (yes e) =
            rw (es, e, join_there C a G r joins)
            (get_or-set_same sizes r (get_or sizes r 0 + 1) 0 ins ∙ (let q = grouped.size r in let t = length-append (get_or G r []) (a ∷ []) in omega arith))
        size v (no e) =
            rw (es, join_else C a G r v joins e)
            (get_or-set_other sizes r v (get_or sizes r 0 + 1) 0 e ∙ grouped.size v)

        small : (v : ℕ) → Dec (v ≡ r) → get_or sizes' v 0 ≤ suc a
        small v (yes e) =
            let q : get_or sizes' r 0 ≡ get_or sizes r 0 + 1 = rw es (get_or-set_same sizes r (get_or sizes r 0 + 1) 0 ins) in
            let t = grouped.small r in
            rw e (omega arith)
        small v (no e) =
            let q : get_or sizes' v 0 ≡ get_or sizes v 0 = rw es (get_or-set_other sizes r v (get_or sizes r 0 + 1) 0 e) in
            let t = grouped.small v in
            omega arith
