-- Each atom value has a rank of its own among the atom values of all variables; so each is given once exactly if the ranks of all atoms are
-- all ranks, no one twice. Assumes nothing.
use mathlib.Core.Path.{◌≡◌, refl, sym, ap, ◌∙◌, subst}
use mathlib.Core.List.{List, [], ◌∷◌, map}
use mathlib.Core.Bool.{Bool, true, false, cond, ◌&&◌}
use Prim.Native.Nat.{ℕ, zero, suc, ◌+◌, ◌-◌, ◌*◌, ◌/◌, ◌≤◌, ◌<◌}
use native.Mathlib.Numerals.{add-one}
use native.Mathlib.Omega.{arith}
use lib.Dec.{eqb, ltb}
use lib.ListN.{length, get_or, drop, set, length-map, drop_of_length-le}
use lib.Seq.{get_or-set_same, get_or-set_other}
use borrow.Author.Tests.{eqb-true, eqb-false, eq-eqb, ne_eqb, ltb-true, ltb-false}
use Rattle.definitions.specs.Literal.{most_atoms}
use Rattle.definitions.specs.Lists.{all, keep, below}
use Rattle.definitions.specs.Groups.{Domain, Place}
use Rattle.definitions.specs.Fdr.{no_domain, atom_values}
use Rattle.definitions.specs.FdrImage.{places_in, is_atom_value, place_right, given_to, each_given_once}
use Rattle.definitions.proofs.EncodeLaws.{same_bool_lem}
use Rattle.definitions.proofs.ListLaws.{and_left, and_right, and_both, all_at}
use Rattle.definitions.proofs.ListLaws.{get_or_mem, get_or_map_low}
use Rattle.fdr_image.proofs.Below.{below_at, below_all}
use Rattle.definitions.proofs.Walks.{left_here}
use Rattle.fdr_image.specs.Walk.{place, values_before, ranks_in, no_marks, all_new}
use Rattle.fdr_image.specs.Post.{AllPlaced, Ranked}
use Rattle.fdr_image.proofs.Pairs.{places_length, places_at}
use Rattle.fdr_image.proofs.Counting.{count, Below, new_once, once_length, once_new}

-- ---- the walk over the ranks
module _ (m ks : List ℕ) (i k : ℕ) (inside : i < length ks) (at : k ≡ get_or ks i 0) where
  pub new_off : (get_or m k 0 ≡ 0 → ⊥) → all_new m (drop i ks) ≡ false
  unfolding all_new
  new_off h = rw (left_here ks i 0 k at inside, ne_eqb (get_or m k 0) 0 h)

  pub new_on : get_or m k 0 ≡ 0 → all_new m (drop i ks) ≡ all_new (set m k 1) (drop (i + 1) ks)
  unfolding all_new
  new_on h = rw (left_here ks i 0 k at inside, eq-eqb (get_or m k 0) 0 h)

module _ (D : List Domain) where
  abbrev size : ℕ → ℕ
  size v = atom_values (get_or D v no_domain)

  abbrev rank : Place → ℕ
  rank p = values_before D p.variable + p.value

  -- the values of a variable end where those of a later one begin
  before_later : (v n : ℕ) → v < n → values_before D v + size v ≤ values_before D n
  unfolding values_before
  before_later v zero h = absurd (omega arith)
  before_later v (suc n) h = go (eqb v n) refl (λ l. before_later v n l)
    where
      go : (b : Bool) → eqb v n ≡ b → (v < n → values_before D v + size v ≤ values_before D n) → values_before D v + size v ≤ values_before D n + size n
      go true e rec = rw (eqb-true v n e) (omega arith)
      go false e rec = let z = eqb-false v n e in let r = rec (omega arith) in omega arith

  same_variable : (v x v' x' : ℕ) → x < size v → x' < size v' → values_before D v + x ≡ values_before D v' + x' → v ≡ v'
  same_variable v x v' x' h h' e = go (ltb v v') refl (ltb v' v) refl
    where
      go : (a : Bool) → ltb v v' ≡ a → (b : Bool) → ltb v' v ≡ b → v ≡ v'
      go true p b q = absurd (let z = before_later v v' (ltb-true v v' p) in omega arith)
      go false p true q = absurd (let z = before_later v' v (ltb-true v' v q) in omega arith)
      go false p false q = let a = ltb-false v v' p in let b = ltb-false v' v q in omega arith

  same_value : (v x v' x' : ℕ) → v ≡ v' → values_before D v + x ≡ values_before D v' + x' → x ≡ x'
  same_value v x v' x' e h = let z = ap (values_before D) e in omega arith

  -- each rank is that of an atom value
  record Ranks (n k : ℕ) : Type 0 where
    v : ℕ
    x : ℕ
    low : v < n
    inside : x < size v
    same : k ≡ values_before D v + x

  rank_of : (n k : ℕ) → k < values_before D n → Ranks n k
  unfolding values_before
  rank_of zero k h = absurd (omega arith)
  rank_of (suc n) k h = go (ltb k (values_before D n)) refl (λ l. rank_of n k l)
    where
      go : (b : Bool) → ltb k (values_before D n) ≡ b → (k < values_before D n → Ranks n k) → Ranks (suc n) k
      go true e rec =
          let r = rec (ltb-true k (values_before D n) e) in
          record { v = r.v; x = r.x; low = (let z = r.low in omega arith); inside = r.inside; same = r.same }
      go false e rec =
          let z = ltb-false k (values_before D n) e in
          record { v = n; x = k - values_before D n; low = omega arith; inside = omega arith; same = omega arith }

  right_in : (p : Place) → place_right D p ≡ true → (p.variable < length D) × (p.value < size p.variable)
  unfolding place_right is_atom_value
  right_in p h = (
    ltb-true p.variable (length D) (and_left (ltb p.variable (length D)) (ltb p.value (size p.variable)) h),
    ltb-true p.value (size p.variable) (and_right (ltb p.variable (length D)) (ltb p.value (size p.variable)) h),
  )

  -- a value is given as often as its rank stands among those of the atoms
  count_given :
      (v x : ℕ) → x < size v → (P : List Place) → all (place_right D) P ≡ true → count (values_before D v + x) (map rank P) ≡ length (given_to D P v x)
  unfolding count given_to keep all
  count_given v x h [] a = refl
  count_given v x h (p ∷ P) a =
      rw same (go (eqb p.variable v && eqb p.value x) refl (count_given v x h P (and_right (place_right D p) (all (place_right D) P) a)))
    where
      right : (p.variable < length D) × (p.value < size p.variable)
      right = right_in p (and_left (place_right D p) (all (place_right D) P) a)

      same : eqb (rank p) (values_before D v + x) ≡ (eqb p.variable v && eqb p.value x)
      same =
          same_bool_lem (eqb (rank p) (values_before D v + x)) (eqb p.variable v && eqb p.value x)
          (λ e. let z = eqb-true (rank p) (values_before D v + x) e in
          let w = same_variable p.variable p.value v x right.1 h z in
          and_both (eq-eqb p.variable v w) (eq-eqb p.value x (same_value p.variable p.value v x w z)))
          (λ e. eq-eqb (rank p) (values_before D v + x)
          (let z = ap (values_before D) (eqb-true p.variable v (and_left (eqb p.variable v) (eqb p.value x) e)) in
          let y = eqb-true p.value x (and_right (eqb p.variable v) (eqb p.value x) e) in
          omega arith))

      go :
          (b : Bool) → (eqb p.variable v && eqb p.value x) ≡ b → count (values_before D v + x) (map rank P) ≡ length (given_to D P v x)
          → cond (eqb p.variable v && eqb p.value x) 1 0 + count (values_before D v + x) (map rank P) ≡ length (given_to D (p ∷ P) v x)
      go true e rec = rw (e, given_to, keep) (omega arith)
      go false e rec = rw (e, given_to, keep) (omega arith)

  ranks_low : (P : List Place) → all (place_right D) P ≡ true → Below (values_before D (length D)) (map rank P)
  unfolding Below all
  ranks_low [] a i h = absurd (omega arith)
  ranks_low (p ∷ P) a zero h =
      let r = right_in p (and_left (place_right D p) (all (place_right D) P) a) in
      let z = before_later p.variable (length D) r.0 in
      let y = r.1 in
      omega arith
  ranks_low (p ∷ P) a (suc i) h = ranks_low P (and_right (place_right D p) (all (place_right D) P) a) i (omega arith)

  module _ (P : List Place) (placed : AllPlaced D P) where
    total : ℕ
    total = values_before D (length D)

    low : Below total (map rank P)
    unfolding total
    low = ranks_low P placed.right

    each_of : each_given_once D P ≡ true → (k : ℕ) → k < total → count k (map rank P) ≡ 1
    unfolding each_given_once total
    each_of e k h =
        let r = rank_of (length D) k h in
        let given =
        below_at (λ x. eqb (length (given_to D P r.v x)) 1) (size r.v)
        (below_at (λ v. all (λ x. eqb (length (given_to D P v x)) 1) (below (size v))) (length D) e r.v r.low) r.x r.inside in
        ap (λ (j : ℕ). count j (map rank P)) r.same
        ∙ count_given r.v r.x r.inside P placed.right
        ∙ eqb-true (length (given_to D P r.v r.x)) 1 given

    of_each : ((k : ℕ) → k < total → count k (map rank P) ≡ 1) → each_given_once D P ≡ true
    unfolding each_given_once total
    of_each h =
        below_all (λ v. all (λ x. eqb (length (given_to D P v x)) 1) (below (size v))) (length D)
        (λ v in-v. below_all (λ x. eqb (length (given_to D P v x)) 1) (size v)
        (λ x in-x. eq-eqb (length (given_to D P v x)) 1
        (sym (count_given v x in-x P placed.right) ∙ h (values_before D v + x) (let z = before_later v (length D) in-v in omega arith))))

    -- the values are not as many as the atoms
    pub given_unlike : (values_before D (length D) ≡ length P → ⊥) → false ≡ each_given_once D P
    unfolding total
    given_unlike h = go (each_given_once D P) refl
      where
        go : (b : Bool) → each_given_once D P ≡ b → false ≡ each_given_once D P
        go true e = absurd (h (sym (once_length total total (map rank P) low (omega arith) (each_of e)) ∙ length-map P rank))
        go false e = sym e

    -- they are
    pub given_new : values_before D (length D) ≡ length P → all_new no_marks (map rank P) ≡ each_given_once D P
    unfolding total no_marks
    given_new h =
        let few = placed.atoms in
        same_bool_lem (all_new no_marks (map rank P)) (each_given_once D P)
        (λ e. of_each (new_once total most_atoms (map rank P) low (omega arith) (length-map P rank ∙ sym h) e))
        (λ e. once_new total most_atoms (map rank P) low (omega arith) (each_of e))

-- ---- by the starts of the variables
module _ (D : List Domain) (s : List ℕ) (begin : (v : ℕ) → v < length D → get_or s v 0 ≡ values_before D v) where
  starts_rank : (P : List Place) → all (place_right D) P ≡ true → map (λ p. get_or s p.variable 0 + p.value) P ≡ map (rank D) P
  unfolding all
  starts_rank [] a = refl
  starts_rank (p ∷ P) a =
      rw (
        begin p.variable (right_in D p (and_left (place_right D p) (all (place_right D) P) a)).0,
        starts_rank P (and_right (place_right D p) (all (place_right D) P) a),
      )

  module _ (w : List ℕ) (placed : AllPlaced D (places_in w)) (full : values_before D (length D) ≡ length (places_in w)) where
    pub starts_given : all_new no_marks (ranks_in s w) ≡ each_given_once D (places_in w)
    starts_given = ap (all_new no_marks) (starts_rank (places_in w) placed.right) ∙ given_new D (places_in w) placed full

    pub starts_ranked : length s ≡ most_atoms → Ranked w s
    starts_ranked size = record { starts = size; variable = variable; rank = ranked }
      where
        here : (i : ℕ) → i < length w / 2 → place_right D (place (get_or w (2 * i) 0) (get_or w (2 * i + 1) 0)) ≡ true
        here i h =
            subst (λ (p : Place). place_right D p ≡ true) (places_at w i (place 0 0) h)
            (all_at (place_right D) placed.right (get_or_mem (places_in w) i (place 0 0) (omega (arith, places_length w))))

        variable : (i : ℕ) → i < length w / 2 → get_or w (2 * i) 0 < most_atoms
        variable i h = let z = (right_in D (place (get_or w (2 * i) 0) (get_or w (2 * i + 1) 0)) (here i h)).0 in let y = placed.variables in omega arith

        ranked : (i : ℕ) → i < length w / 2 → get_or s (get_or w (2 * i) 0) 0 + get_or w (2 * i + 1) 0 < most_atoms
        ranked i h =
            let z = right_in D (place (get_or w (2 * i) 0) (get_or w (2 * i + 1) 0)) (here i h) in
            let y = before_later D (get_or w (2 * i) 0) (length D) z.0 in
            let x = begin (get_or w (2 * i) 0) z.0 in
            let few = placed.atoms in
            let v = z.1 in
            omega arith

pub rank_at :
    (s w : List ℕ) (i v x b : ℕ) → i < length w / 2 → v ≡ get_or w (2 * i) 0 → x ≡ get_or w (2 * i + 1) 0 → b ≡ get_or s v 0
    → b + x ≡ get_or (ranks_in s w) i 0
rank_at s w i v x b h ev ex eb =
    rw (
      get_or_map_low (λ p. get_or s p.variable 0 + p.value) (places_in w) i (place 0 0) 0 (omega (arith, places_length w)),
      places_at w i (place 0 0) h,
      eb,
      ← ev,
      ← ex,
    )

pub ranks_length : (s w : List ℕ) → length (ranks_in s w) ≡ length w / 2
ranks_length s w = length-map (places_in w) (λ p. get_or s p.variable 0 + p.value) ∙ places_length w

pub new_end : (m ks : List ℕ) (i : ℕ) → length ks ≤ i → all_new m (drop i ks) ≡ true
unfolding all_new
new_end m ks i h = rw (drop_of_length-le ks {i = i} h)

-- ---- the sums
pub starts_more : (D : List Domain) (s : List ℕ) (v x : ℕ) → v < length s → ((u : ℕ) → u < v → get_or s u 0 ≡ values_before D u) → x ≡ values_before D v
    → (u : ℕ) → u < v + 1 → get_or (set s v x) u 0 ≡ values_before D u
starts_more D s v x inside before e u h = go (eqb u v) refl
  where
    go : (b : Bool) → eqb u v ≡ b → get_or (set s v x) u 0 ≡ values_before D u
    go true t = let z = eqb-true u v t in rw z (get_or-set_same s v x 0 inside ∙ e)
    go false t = get_or-set_other s v u x 0 (eqb-false u v t) ∙ before u (let z = eqb-false u v t in omega arith)

pub before_next : (D : List Domain) (v a n : ℕ) → a ≡ values_before D v → n ≡ atom_values (get_or D v no_domain) → a + n ≡ values_before D (v + 1)
unfolding values_before
before_next D v a n ea en = rw (add-one, ea, en)

-- more values than atoms
pub before_over : (D : List Domain) (v a n : ℕ) → v < length D → a ≡ values_before D v → n < a → false ≡ eqb (values_before D (length D)) n
before_over D v a n h ea l =
    sym (ne_eqb (values_before D (length D)) n (λ e. let z = before_later D v (length D) h in omega arith))

pub before_end : (D : List Domain) (v a n : ℕ) → v ≡ length D → a ≡ values_before D v → eqb a n ≡ eqb (values_before D (length D)) n
before_end D v a n h ea = rw (← h, ea)

pub rank_low :
    (s w : List ℕ) → Ranked w s → (i v x b : ℕ) → i < length w / 2 → v ≡ get_or w (2 * i) 0 → x ≡ get_or w (2 * i + 1) 0 → b ≡ get_or s v 0
    → b + x < most_atoms
rank_low s w r i v x b h ev ex eb = rw (eb, ev, ex) (r.rank i h)
