-- The lines of groups by the places of the atoms are the lines of the groups. Assumes nothing.
use mathlib.Core.Path.{◌≡◌, refl, sym, ◌∙◌, ap}
use mathlib.Core.Bool.{Bool, true, false, cond}
use mathlib.Core.List.{List, [], ◌∷◌, ◌++◌, map, append_assoc, append-nil}
use Prim.Native.Nat.{ℕ, zero, suc, ◌+◌, ◌/◌, ◌≤◌, ◌<◌}
use native.Mathlib.Omega.{arith}
use lib.Dec.{eqb}
use lib.ListN.{length, get_or, length-append}
use borrow.Author.Tests.{eq-eqb, ne_eqb, eqb-true, eqb-false}
use Rattle.definitions.specs.Lists.{each, range, below, all}
use Rattle.definitions.specs.Text.{decimal}
use Rattle.definitions.specs.Card.{none_word, group_line}
use Rattle.definitions.specs.Groups.{mutex, join, groups_below, groups, none_omitted, place_of, Place}
use Rattle.definitions.proofs.GroupLaws.{all_below_lem, group_of}
use Rattle.cover.specs.Join.{Joins}
use Rattle.cover.specs.Cover.{Covered}
use Rattle.cover.proofs.Joining.{join_there, join_else, join_count, place_old, place_new}
use Rattle.cover.proofs.Covering.{each_by}
use Rattle.text.specs.Fields.{separator, fields_from}
use Rattle.text.proofs.Lines.{line_fields}
use Rattle.card.specs.Text.{member_text, none_text, group_text, group_texts}

-- ---- the atoms of a line, from field i on
unfoldable members_from : ℕ → List ℕ → List ℕ
members_from i [] = []
members_from i (x ∷ xs) = (separator i ++ decimal x) ++ members_from (suc i) xs

members_fields : (i : ℕ) (g : List ℕ) (rest : List (List ℕ)) → fields_from i (map decimal g ++ rest) ≡ members_from i g ++ fields_from (i + length g) rest
unfolding fields_from members_from
members_fields i [] rest = let e : i + 0 ≡ i = omega arith in rw e
members_fields i (x ∷ xs) rest =
    let e : i + suc (length xs) ≡ suc i + length xs = omega arith in
    rw (e, append_assoc, append_assoc) (ap (λ (z : List ℕ). separator i ++ (decimal x ++ z)) (members_fields (suc i) xs rest))

members_last : (i : ℕ) (g : List ℕ) (a : ℕ) → members_from i (g ++ (a ∷ [])) ≡ members_from i g ++ (separator (i + length g) ++ decimal a)
unfolding members_from
members_last i [] a = let e : i + 0 ≡ i = omega arith in rw (e, append-nil)
members_last i (x ∷ xs) a =
    let e : i + suc (length xs) ≡ suc i + length xs = omega arith in
    rw e
    (ap (λ (z : List ℕ). (separator i ++ decimal x) ++ z) (members_last (suc i) xs a)
    ∙ sym (append_assoc (separator i ++ decimal x) (members_from (suc i) xs) (separator (suc i + length xs) ++ decimal a)))

-- ---- numbers in a row
each_last : (f : ℕ → List ℕ) (i k : ℕ) → each f (range i (suc k)) ≡ each f (range i k) ++ f (i + k)
unfolding each range
each_last f i zero = let e : i + 0 ≡ i = omega arith in rw (e, append-nil)
each_last f i (suc k) =
    let e : i + suc k ≡ suc i + k = omega arith in
    rw (e, append_assoc) (ap (λ (z : List ℕ). f i ++ z) (each_last f (suc i) k))

each_same : (f h : ℕ → List ℕ) (i k : ℕ) → ((x : ℕ) → x < i + k → f x ≡ h x) → each f (range i k) ≡ each h (range i k)
unfolding each range
each_same f h i zero s = refl
each_same f h i (suc k) s = rw (s i (omega arith)) (ap (λ (z : List ℕ). h i ++ z) (each_same f h (suc i) k (λ x l. s x (omega arith))))

-- ---- the group that an atom joins
joins : (C : List (List ℕ)) (a : ℕ) (gs : List (List ℕ)) → (r : ℕ) × Joins C a gs r
joins C a [] = (0, record { inside = omega arith; before = λ g h. absurd (omega arith); here = λ h. absurd (omega arith) })
joins C a (g ∷ gs) = go (all (mutex C a) g) refl (joins C a gs)
  where
    go : (b : Bool) → all (mutex C a) g ≡ b → ((r : ℕ) × Joins C a gs r) → (r : ℕ) × Joins C a (g ∷ gs) r
    go true e rec = (0, record { inside = omega arith; before = λ x h. absurd (omega arith); here = λ h. e })
    go false e rec = (suc rec.0, record { inside = (let i = rec.1.inside in omega arith); before = low; here = λ h. rec.1.here (omega arith) })
      where
        low : (x : ℕ) → x < suc rec.0 → all (mutex C a) (get_or (g ∷ gs) x []) ≡ false
        low zero h = e
        low (suc x) h = rec.1.before x (omega arith)

-- ---- the atoms of group v, as the places say
unfoldable text_by : Place → ℕ → ℕ → List ℕ
text_by p v a = cond (eqb p.variable v) (separator p.value ++ decimal a) []

text_there : (p : Place) (r n v a : ℕ) → p ≡ record { variable = r; value = n } → v ≡ r → text_by p v a ≡ separator n ++ decimal a
unfolding text_by
text_there p r n v a e h = rw (e, eq-eqb r v (sym h))

text_not : (p : Place) (r n v a : ℕ) → p ≡ record { variable = r; value = n } → (v ≡ r → ⊥) → text_by p v a ≡ []
unfolding text_by
text_not p r n v a e h = rw (e, ne_eqb r v (λ q. h (sym q)))

module _ (C : List (List ℕ)) where
  members_are : (k v : ℕ) → members_from 0 (get_or (groups_below C k) v []) ≡ each (λ a. text_by (place_of a 0 (groups_below C k)) v a) (range 0 k)
  unfolding groups_below members_from each range
  members_are zero v = refl
  members_are (suc k) v = go (eqb v J.0) refl (members_are k v)
    where
      G : List (List ℕ)
      G = groups_below C k

      J : (r : ℕ) × Joins C k G r
      J = joins C k G

      old : ℕ → List ℕ
      old a = text_by (place_of a 0 G) v a

      new : ℕ → List ℕ
      new a = text_by (place_of a 0 (join C k G)) v a

      same : (x : ℕ) → x < 0 + k → new x ≡ old x
      same x h =
          let l : x < k = omega arith in
          let w = group_of C k x l in
          ap (λ (p : Place). text_by p v x) (place_old C k G J.0 J.1 x w.0 w.1 (λ e. omega arith) 0)

      last : place_of k 0 (join C k G) ≡ record { variable = 0 + J.0; value = length (get_or G J.0 []) }
      last = place_new C k G J.0 J.1 (λ w m. let h = all_below_lem C k w k m in omega arith) 0

      split : each new (range 0 (suc k)) ≡ each old (range 0 k) ++ new (0 + k)
      split = each_last new 0 k ∙ ap (λ (z : List ℕ). z ++ new (0 + k)) (each_same new old 0 k same)

      go :
          (b : Bool) → eqb v J.0 ≡ b → members_from 0 (get_or G v []) ≡ each old (range 0 k)
          → members_from 0 (get_or (join C k G) v []) ≡ each new (range 0 (suc k))
      go true e rec =
          let q = eqb-true v J.0 e in
          let z : 0 + J.0 ≡ J.0 = omega arith in
          let y : 0 + k ≡ k = omega arith in
          let x : 0 + length (get_or G J.0 []) ≡ length (get_or G J.0 []) = omega arith in
          let t = text_there (place_of k 0 (join C k G)) (0 + J.0) (length (get_or G J.0 [])) v k last (q ∙ sym z) in
          ap (λ (u : ℕ). members_from 0 (get_or (join C k G) u [])) q
          ∙ ap (members_from 0) (join_there C k G J.0 J.1)
          ∙ members_last 0 (get_or G J.0 []) k
          ∙ ap (λ (u : ℕ). members_from 0 (get_or G J.0 []) ++ (separator u ++ decimal k)) x
          ∙ ap (λ (u : ℕ). members_from 0 (get_or G u []) ++ (separator (length (get_or G J.0 [])) ++ decimal k)) (sym q)
          ∙ ap (λ (u : List ℕ). u ++ (separator (length (get_or G J.0 [])) ++ decimal k)) rec
          ∙ ap (λ (u : List ℕ). each old (range 0 k) ++ u) (sym t ∙ ap new (sym y))
          ∙ sym split
      go false e rec =
          let q = eqb-false v J.0 e in
          let z : 0 + J.0 ≡ J.0 = omega arith in
          let y : 0 + k ≡ k = omega arith in
          let t = text_not (place_of k 0 (join C k G)) (0 + J.0) (length (get_or G J.0 [])) v k last (λ u. q (u ∙ z)) in
          ap (members_from 0) (join_else C k G J.0 v J.1 q)
          ∙ rec
          ∙ sym (append-nil (each old (range 0 k)))
          ∙ ap (λ (u : List ℕ). each old (range 0 k) ++ u) (sym t ∙ ap new (sym y))
          ∙ sym split

  some_atom : (k v : ℕ) → v < length (groups_below C k) → 1 ≤ length (get_or (groups_below C k) v [])
  unfolding groups_below
  some_atom zero v h = absurd (omega arith)
  some_atom (suc k) v h = go (eqb v J.0) refl (λ l. some_atom k v l)
    where
      G : List (List ℕ)
      G = groups_below C k

      J : (r : ℕ) × Joins C k G r
      J = joins C k G

      go : (b : Bool) → eqb v J.0 ≡ b → (v < length G → 1 ≤ length (get_or G v [])) → 1 ≤ length (get_or (join C k G) v [])
      go true e rec =
          let q = eqb-true v J.0 e in
          let l = length-append (get_or G J.0 []) (k ∷ []) in
          let t = ap length (ap (λ (u : ℕ). get_or (join C k G) u []) q ∙ join_there C k G J.0 J.1) in
          omega arith
      go false e rec =
          let q = eqb-false v J.0 e in
          let n = join_count C k G J.0 J.1 in
          let i = J.1.inside in
          let l : v < length G = omega arith in
          let t = ap length (join_else C k G J.0 v J.1 q) in
          let r = rec l in
          omega arith

-- ---- the line of a group
fields_none : (i : ℕ) (b : Bool) (none : ℕ) → 1 ≤ i → none ≡ cond b 0 1 → fields_from i (cond b [] (none_word ∷ [])) ≡ none_text none ++ (10 ∷ [])
unfolding fields_from none_text separator
fields_none zero b none l e = absurd (omega arith)
fields_none (suc i) true none l e = rw e
fields_none (suc i) false none l e = rw e

line_parts :
    (C : List (List ℕ)) (g : List ℕ) (none : ℕ) → 1 ≤ length g → none ≡ cond (none_omitted C g) 0 1
    → group_line C g ≡ members_from 0 g ++ (none_text none ++ (10 ∷ []))
unfolding group_line
line_parts C g none l e =
    line_fields (map decimal g ++ cond (none_omitted C g) [] (none_word ∷ []))
    ∙ members_fields 0 g (cond (none_omitted C g) [] (none_word ∷ []))
    ∙ ap (λ (z : List ℕ). members_from 0 g ++ z) (fields_none (0 + length g) (none_omitted C g) none (omega arith) e)

module _ (N : ℕ) (C : List (List ℕ)) (ps ss ns : List ℕ) (n : ℕ) (covered : Covered N C ps ss ns n) where
  member_is : (v a : ℕ) → a < 0 + N → text_by (place_of a 0 (groups_below C N)) v a ≡ member_text ps v a
  unfolding text_by member_text
  member_is v a h =
      let l : a < N = omega arith in
      rw (covered.grouped.placed.variable a l, covered.grouped.placed.value a l)

  line_is : (v : ℕ) → v < length (groups_below C N) → group_line C (get_or (groups_below C N) v []) ≡ group_text ps v (get_or ns v 0)
  unfolding group_text below
  line_is v h =
      let m = covered.grouped.count in
      let l : v < n = omega arith in
      let e = covered.places in
      let s : length ps / 2 ≡ N = omega arith in
      line_parts C (get_or (groups_below C N) v []) (get_or ns v 0) (some_atom C N v h) (covered.none v l)
      ∙ rw s
      (ap (λ (z : List ℕ). z ++ (none_text (get_or ns v 0) ++ (10 ∷ [])))
      (members_are C N v ∙ each_same (λ a. text_by (place_of a 0 (groups_below C N)) v a) (member_text ps v) 0 N (member_is v)))

  -- the lines of all groups
  pub group_lines : each (group_line C) (groups N C) ≡ group_texts ps ns n
  unfolding groups group_texts below
  group_lines =
      each_by [] (group_line C) (λ v. group_text ps v (get_or ns v 0)) (groups_below C N) 0
      (λ v h. let z : 0 + v ≡ v = omega arith in line_is v h ∙ rw z)
      ∙ ap (λ (k : ℕ). each (λ v. group_text ps v (get_or ns v 0)) (range 0 k)) (sym covered.grouped.count)
