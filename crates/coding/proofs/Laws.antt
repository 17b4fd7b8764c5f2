-- Laws of the walks: the true values that are noted, and the tables that are written. Assumes nothing.
use mathlib.Core.Path.{◌≡◌, refl, sym, ap, ◌∙◌}
use mathlib.Core.List.{List, [], ◌∷◌, ◌++◌, map, append-nil}
use mathlib.Core.Bool.{Bool, true, false, cond, ◌&&◌}
use Prim.Native.Nat.{ℕ, zero, suc, ◌+◌, ◌-◌, ◌≤◌, ◌<◌}
use native.Mathlib.Numerals.{add-one}
use native.Mathlib.Omega.{arith}
use mir.Val.{bool_byte}
use lib.Dec.{eqb}
use lib.ListN.{length, get_or, drop, set, length-set, length-map, length-replicate, drop_of_length-le}
use lib.Seq.{get_or-set_same, get_or-set_other, ext_get_or}
use borrow.Author.Tests.{eq-eqb, ne_eqb, eqb-true, eqb-false}
use Rattle.definitions.specs.Literal.{most_atoms}
use Rattle.definitions.specs.Lists.{all, below}
use Rattle.definitions.specs.Groups.{Place}
use Rattle.definitions.specs.Fdr.{FdrTask, domain_at}
use Rattle.definitions.specs.Coding.{to_atoms, true_values, codable, value_from}
use Rattle.definitions.proofs.ListLaws.{never, all_at, table_at, table_length}
use Rattle.definitions.proofs.ListLaws.{get_or_map_low}
use Rattle.definitions.proofs.Walks.{left_here, below_in, zero_at}
use Rattle.fdr_image.specs.Walk.{place}
use Rattle.coding.specs.Found.{none_found, values_of, with_atom, codable_at, value_at, byte_of}
use Rattle.coding.specs.Post.{Noted, Found}

-- ---- a table that is written from its start: the first i elements of xs are those of f
pub record Written (f : ℕ → ℕ) (xs : List ℕ) (i : ℕ) : Type 0 where
  pub at : (k : ℕ) → k < i → get_or xs k 0 ≡ f k

module _ {f : ℕ → ℕ} {xs : List ℕ} (i : ℕ) (w : Written f xs i) where
  pub written_all : (n : ℕ) → length xs ≤ i → length xs ≡ n → xs ≡ map f (below n)
  written_all n past size =
      ext_get_or 0 xs (map f (below n)) (size ∙ sym (table_length f n))
      (λ k h. w.at k (omega arith) ∙ sym (table_at f n k (omega arith)))

-- ---- atoms coded back
abbrev pub atom_at : FdrTask → List ℕ → ℕ → ℕ
atom_at t s a = byte_of s (get_or t.atoms a (place 0 0))

pub atoms_are : (t : FdrTask) (s : List ℕ) → map (atom_at t s) (below (length t.atoms)) ≡ to_atoms t s
unfolding to_atoms byte_of
atoms_are t s =
    let n = length t.atoms in
    ext_get_or 0 (map (atom_at t s) (below n)) (map (byte_of s) t.atoms)
    (table_length (atom_at t s) n ∙ sym (length-map t.atoms (byte_of s)))
    (λ k h.
    let low : k < n = omega (arith, table_length (atom_at t s) n) in
    table_at (atom_at t s) n k low ∙ sym (get_or_map_low (byte_of s) t.atoms k (place 0 0) 0 low))

pub byte_tested :
    (s : List ℕ) (p : Place) (v x y : ℕ) → v ≡ p.variable → x ≡ p.value → y ≡ get_or s v 0 → bool_byte (eqb y x) ≡ byte_of s p
unfolding byte_of
byte_tested s p v x y ev ex ey = rw (ey, ev, ex) (go (eqb (get_or s p.variable 0) p.value))
  where
    go : (b : Bool) → bool_byte b ≡ cond b 1 0
    go true = refl
    go false = refl

-- ---- one atom
module _ (u v x b : ℕ) (xs : List ℕ) where
  with_true : v ≡ u → b ≡ 1 → with_atom u v x b xs ≡ x ∷ xs
  unfolding with_atom
  with_true p q = rw (eq-eqb v u p, with_atom, eq-eqb b 1 q, with_atom)

  with_other : (v ≡ u → ⊥) → with_atom u v x b xs ≡ xs
  unfolding with_atom
  with_other p = rw (ne_eqb v u p, with_atom)

  with_false : (b ≡ 1 → ⊥) → with_atom u v x b xs ≡ xs
  unfolding with_atom
  with_false q = rw (ne_eqb b 1 q, with_atom) (go (eqb v u))
    where
      go : (c : Bool) → elim (c && false) [ true ↦ x ∷ xs | false ↦ xs ] ≡ xs
      go true = refl
      go false = refl

module _ (b v x : ℕ) (m : List ℕ) where
  pub note_not : (b ≡ 1 → ⊥) → Noted b v x m m true
  note_not h =
      record {
        size = refl;
        low = λ l. l;
        one = λ e u xs. ap (λ (l : List ℕ). values_of (get_or m u 0) ++ l) (with_false u v x b xs h);
        two = λ e. never refl e;
      }

  pub note_two : b ≡ 1 → (get_or m v 0 ≡ 0 → ⊥) → Noted b v x m m false
  note_two h f = record { size = refl; low = λ l. l; one = λ e. never e refl; two = λ e. (h, f) }

  pub note_first : b ≡ 1 → get_or m v 0 ≡ 0 → v < length m → x < 65536 → Noted b v x m (set m v (x + 1)) true
  unfolding values_of
  note_first h z inside fits =
      record {
        size = length-set m v (x + 1);
        low = λ l u. low l u (eqb u v) refl;
        one = λ e u xs. one u xs (eqb u v) refl;
        two = λ e. never refl e;
      }
    where
      low : ((u : ℕ) → get_or m u 0 ≤ 65536) → (u : ℕ) (c : Bool) → eqb u v ≡ c → get_or (set m v (x + 1)) u 0 ≤ 65536
      low l u true e = rw (eqb-true u v e, get_or-set_same m v (x + 1) 0 inside) (omega arith)
      low l u false e = rw (get_or-set_other m v u (x + 1) 0 (eqb-false u v e)) (l u)

      one : (u : ℕ) (xs : List ℕ) (c : Bool) → eqb u v ≡ c → values_of (get_or m u 0) ++ with_atom u v x b xs ≡ values_of (get_or (set m v (x + 1)) u 0) ++ xs
      one u xs true e =
          let q = eqb-true u v e in
          rw (with_true u v x b xs (sym q) h, q, z, get_or-set_same m v (x + 1) 0 inside, add-one)
      one u xs false e =
          let q = eqb-false u v e in
          rw (with_other u v x b xs (λ r. q (sym r)), get_or-set_other m v u (x + 1) 0 q)

-- ---- a variable with two true atoms
all_fails : (p : ℕ → Bool) (n v : ℕ) → v < n → p v ≡ false → all p (below n) ≡ false
all_fails p n v low h = go (all p (below n)) refl
  where
    go : (c : Bool) → all p (below n) ≡ c → all p (below n) ≡ false
    go true e = never (all_at p e (below_in n v low)) h
    go false e = e

two_fail : (t : FdrTask) (s : List ℕ) (v n x : ℕ) (xs : List ℕ) → (n ≡ 0 → ⊥) → true_values v t.atoms s ≡ values_of n ++ (x ∷ xs) → codable t s v ≡ false
unfolding codable values_of
two_fail t s v zero x xs h e = absurd (h refl)
two_fail t s v (suc n) x xs h e = rw (e, codable)

-- ---- the walk over the atoms: what is noted of those before a, and the true values of those from a on
pub record Walked (t : FdrTask) (s : List ℕ) (a : ℕ) (m : List ℕ) : Type 0 where
  pub size : length m ≡ most_atoms
  pub low : (v : ℕ) → get_or m v 0 ≤ 65536
  pub all_values : (v : ℕ) → true_values v t.atoms s ≡ values_of (get_or m v 0) ++ true_values v (drop a t.atoms) (drop a s)

pub walked_none : (t : FdrTask) (s m : List ℕ) → m ≡ none_found → Walked t s 0 m
unfolding none_found values_of
walked_none t s m e =
    record {
      size = ap length e ∙ length-replicate {A = ℕ} most_atoms 0;
      low = λ v. let z = at v in omega arith;
      all_values = λ v. rw (at v);
    }
  where
    at : (v : ℕ) → get_or m v 0 ≡ 0
    at v = ap (λ (l : List ℕ). get_or l v 0) e ∙ zero_at v most_atoms

module _ (t : FdrTask) (s : List ℕ) (a : ℕ) (m : List ℕ) (w : Walked t s a m) where
  walked_all : length s ≤ a → (v : ℕ) → true_values v t.atoms s ≡ values_of (get_or m v 0)
  unfolding true_values
  walked_all past v =
      w.all_values v
      ∙ rw (drop_of_length-le s {i = a} past)
      (ap (λ (l : List ℕ). values_of (get_or m v 0) ++ l) (nothing (drop a t.atoms)) ∙ append-nil (values_of (get_or m v 0)))
    where
      nothing : (P : List Place) → true_values v P [] ≡ []
      nothing [] = refl
      nothing (p ∷ P) = refl

  pub found_all : length s ≤ a → Found t s m true
  found_all past = record { size = w.size; low = w.low; one = λ h. walked_all past; two = λ h. never refl h }

  module _
      (inside : a < length s) (source : length s ≡ length t.atoms) (v x b : ℕ) (ev : v ≡ (get_or t.atoms a (place 0 0)).variable)
      (ex : x ≡ (get_or t.atoms a (place 0 0)).value) (eb : b ≡ get_or s a 0) where
    next : (u : ℕ) → true_values u (drop a t.atoms) (drop a s) ≡ with_atom u v x b (true_values u (drop (a + 1) t.atoms) (drop (a + 1) s))
    unfolding true_values with_atom
    next u =
        let low : a < length t.atoms = omega arith in
        rw (left_here t.atoms a (place 0 0) (get_or t.atoms a (place 0 0)) refl low, left_here s a 0 (get_or s a 0) refl inside, ev, ex, eb)

    pub walked_on : (m' : List ℕ) (r : Bool) → Noted b v x m m' r → r ≡ true → Walked t s (a + 1) m'
    walked_on m' r n e =
        record {
          size = n.size ∙ w.size;
          low = n.low w.low;
          all_values =
              λ u. w.all_values u
              ∙ ap (λ (l : List ℕ). values_of (get_or m u 0) ++ l) (next u)
              ∙ n.one e u (true_values u (drop (a + 1) t.atoms) (drop (a + 1) s));
        }

    pub found_two : v < length t.domains → (m' : List ℕ) (r : Bool) → Noted b v x m m' r → r ≡ false → Found t s m' false
    found_two inside-v m' r n e =
        record {
          size = n.size ∙ w.size;
          low = n.low w.low;
          one = λ h. never h refl;
          two = λ h. all_fails (codable t s) (length t.domains) v inside-v (two_fail t s v (get_or m v 0) x rest (n.two e).1 both);
        }
      where
        rest : List ℕ
        rest = true_values v (drop (a + 1) t.atoms) (drop (a + 1) s)

        both : true_values v t.atoms s ≡ values_of (get_or m v 0) ++ (x ∷ rest)
        both = w.all_values v ∙ ap (λ (l : List ℕ). values_of (get_or m v 0) ++ l) (next v ∙ with_true v v x b rest refl (n.two e).0)

-- ---- question 23 and the values, by what is noted
module _ {t : FdrTask} {s m : List ℕ} {r : Bool} (found : Found t s m r) (h : r ≡ true) where
  codable_at_lem : (v : ℕ) → codable_at t (get_or m v 0) v ≡ codable t s v
  unfolding codable codable_at values_of
  codable_at_lem v = rw (found.one h v, codable) (go (get_or m v 0))
    where
      go : (n : ℕ) → codable_at t n v ≡ elim (length (values_of n)) [ zero ↦ eqb (domain_at t v).none 1 | suc k ↦ elim k [ zero ↦ true | suc j ↦ false ] ]
      go zero = refl
      go (suc n) = refl

  value_at_lem : (v : ℕ) → value_at t (get_or m v 0) v ≡ value_from t s v
  unfolding value_from value_at values_of
  value_at_lem v = rw (found.one h v) (go (get_or m v 0))
    where
      go : (n : ℕ) → value_at t n v ≡ get_or (values_of n) 0 ((domain_at t v).values - 1)
      go zero = refl
      go (suc n) = refl

  pub codable_noted : all (λ v. codable_at t (get_or m v 0) v) (below (length t.domains)) ≡ all (codable t s) (below (length t.domains))
  unfolding all
  codable_noted = go (below (length t.domains))
    where
      go : (vs : List ℕ) → all (λ v. codable_at t (get_or m v 0) v) vs ≡ all (codable t s) vs
      go [] = refl
      go (v ∷ vs) = rw (codable_at_lem v, go vs)

  pub values_noted : map (λ v. value_at t (get_or m v 0) v) (below (length t.domains)) ≡ map (value_from t s) (below (length t.domains))
  values_noted = go (below (length t.domains))
    where
      go : (vs : List ℕ) → map (λ v. value_at t (get_or m v 0) v) vs ≡ map (value_from t s) vs
      go [] = refl
      go (v ∷ vs) = rw (value_at_lem v, go vs)

-- the tests and values of all variables, as the walks over the variables name them
abbrev pub codable_by : FdrTask → List ℕ → ℕ → Bool
codable_by t m v = codable_at t (get_or m v 0) v

abbrev pub value_by : FdrTask → List ℕ → ℕ → ℕ
value_by t m v = value_at t (get_or m v 0) v

pub codable_yes : (t : FdrTask) (n v : ℕ) → (n ≡ 0 → ⊥) → true ≡ codable_at t n v
unfolding codable_at
codable_yes t zero v h = absurd (h refl)
codable_yes t (suc n) v h = refl

pub codable_none : (t : FdrTask) (n v k : ℕ) → n ≡ 0 → k ≡ (domain_at t v).none → eqb k 1 ≡ codable_at t n v
unfolding codable_at
codable_none t n v k h e = rw (h, e)

pub value_noted : (t : FdrTask) (n v : ℕ) → (n ≡ 0 → ⊥) → n - 1 ≡ value_at t n v
unfolding value_at
value_noted t zero v h = absurd (h refl)
value_noted t (suc n) v h = omega arith

pub value_none : (t : FdrTask) (n v k : ℕ) → n ≡ 0 → k ≡ (domain_at t v).values → k - 1 ≡ value_at t n v
unfolding value_at
value_none t n v k h e = rw (h, e)
