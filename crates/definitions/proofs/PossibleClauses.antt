-- There are as many possible clauses as are counted: a list of them, each once. Assumes nothing.
use mathlib.Core.Bool.{Bool, true, false, ◌&&◌}
use mathlib.Core.Logic.{◌⊎◌, inl, inr}
use mathlib.Core.Path.{◌≡◌, refl, sym, ◌∙◌, ap, subst}
use mathlib.Core.List.Memᴰ
use mathlib.Core.List.{List, [], ◌∷◌, ◌++◌, map, Memᴰ}
use Prim.Native.Nat.{ℕ, zero, suc, ◌+◌, ◌*◌, ◌/◌, ◌^◌, ◌≤◌, ◌<◌}
use native.Mathlib.Nat.{pow-suc, mul-zero, zero-add}
use native.Mathlib.Omega.{arith}
use lib.Dec.{eqb, ltb, leb}
use lib.ListN.{length, get_or, length-append, length-map}
use borrow.Author.Tests.{eqb-true, eqb-false, ltb-true, leb-true, leb-false, lt-ltb, le-leb}
use Rattle.definitions.specs.Lists.{all, above, ascending, Distinct, nothing, another}
use Rattle.definitions.specs.Literal.{atom, all_below, literal_list}
use Rattle.definitions.specs.Clauses.{GoodClause}
use Rattle.definitions.specs.PossibleClauses.{choose, possible_clauses, Counted}
use Rattle.definitions.proofs.ListLaws.{decide, and_left, and_right, and_both, map_in, Origin, map_of}
use Rattle.definitions.proofs.LiteralLaws.{atom_even, atom_odd, list_low}
use Rattle.definitions.proofs.SetRight.{ascending_atoms}

-- ---- the clauses of k literals over N atoms from atom a on
unfoldable clauses_from : ℕ → ℕ → ℕ → List (List ℕ)
clauses_from a N zero = [] ∷ []
clauses_from a zero (suc k) = []
clauses_from a (suc N) (suc k) =
    map (λ f. (2 * a) ∷ f) (clauses_from (suc a) N k)
    ++ (map (λ f. (2 * a + 1) ∷ f) (clauses_from (suc a) N k) ++ clauses_from (suc a) N (suc k))

-- the clauses of 1 to n literals
unfoldable clauses_to : ℕ → ℕ → List (List ℕ)
clauses_to N zero = []
clauses_to N (suc n) = clauses_to N n ++ clauses_from 0 N (suc n)

three_parts : {A B : Type 0} (u v : A → B) (D : List A) (E : List B) → length (map u D ++ (map v D ++ E)) ≡ length D + (length D + length E)
three_parts u v D E = simp (length-append, length-map)

doubled : (d e p x y : ℕ) → d ≡ p * x → e ≡ p * 2 * y → d + (d + e) ≡ p * 2 * (x + y)
doubled d e p x y h k = omega arith

from_count : (N a k : ℕ) → length (clauses_from a N k) ≡ 2 ^ k * choose N k
unfolding clauses_from choose
from_count N a zero = refl
from_count zero a (suc k) = sym (mul-zero (2 ^ suc k))
from_count (suc N) a (suc k) =
    three_parts (λ f. (2 * a) ∷ f) (λ f. (2 * a + 1) ∷ f) (clauses_from (suc a) N k) (clauses_from (suc a) N (suc k))
    ∙ doubled (length (clauses_from (suc a) N k)) (length (clauses_from (suc a) N (suc k))) (2 ^ k) (choose N k) (choose N (suc k))
    (from_count N (suc a) k) (from_count N (suc a) (suc k) ∙ ap (λ p. p * choose N (suc k)) (pow-suc 2 k))
    ∙ ap (λ p. p * choose (suc N) (suc k)) (sym (pow-suc 2 k))

to_count : (N n : ℕ) → length (clauses_to N n) ≡ possible_clauses N n
unfolding clauses_to possible_clauses
to_count N zero = refl
to_count N (suc n) =
    let h = to_count N n in
    let k = from_count N 0 (suc n) in
    omega (arith, length-append (clauses_to N n) (clauses_from 0 N (suc n)))

-- ---- exactly the possible ones are in the list
-- literals whose atoms ascend, from atom a on
unfoldable onward : ℕ → List ℕ → Bool
onward a [] = true
onward a (l ∷ f) = leb a (atom l) && above (atom l) (map atom f)

above_onward : (x : ℕ) (f : List ℕ) → above x (map atom f) ≡ true → onward (suc x) f ≡ true
unfolding above onward
above_onward x [] h = refl
above_onward x (m ∷ f) h =
    let k = ltb-true x (atom m) (and_left (ltb x (atom m)) (above (atom m) (map atom f)) h) in
    and_both (le-leb (suc x) (atom m) k) (and_right (ltb x (atom m)) (above (atom m) (map atom f)) h)

onward_above : (x : ℕ) (f : List ℕ) → onward (suc x) f ≡ true → above x (map atom f) ≡ true
unfolding above onward
onward_above x [] h = refl
onward_above x (m ∷ f) h =
    let k = leb-true (suc x) (atom m) (and_left (leb (suc x) (atom m)) (above (atom m) (map atom f)) h) in
    and_both (lt-ltb x (atom m) k) (and_right (leb (suc x) (atom m)) (above (atom m) (map atom f)) h)

-- a list of k literals over N atoms from atom a on
record Over (a N k : ℕ) (f : List ℕ) : Type 0 where
  atoms : onward a f ≡ true
  low : all_below (2 * (a + N)) f ≡ true
  size : length f ≡ k

atom_half : (l : ℕ) → (2 * atom l ≤ l) × (l ≤ 2 * atom l + 1)
unfolding atom
atom_half l = omega arith

-- the first literal of such a list: one of the two of atom a, or of a later atom
first_literal : (a l : ℕ) → a ≤ atom l → ((l ≡ 2 * a) ⊎ (l ≡ 2 * a + 1)) ⊎ (suc a ≤ atom l)
unfolding atom
first_literal a l h = go (decide (eqb l (2 * a))) (decide (eqb l (2 * a + 1)))
  where
    go :
        (eqb l (2 * a) ≡ true) ⊎ (eqb l (2 * a) ≡ false) → (eqb l (2 * a + 1) ≡ true) ⊎ (eqb l (2 * a + 1) ≡ false)
        → ((l ≡ 2 * a) ⊎ (l ≡ 2 * a + 1)) ⊎ (suc a ≤ l / 2)
    go (inl e) k = inl (inl (eqb-true l (2 * a) e))
    go (inr e) (inl k) = inl (inr (eqb-true l (2 * a + 1) k))
    go (inr e) (inr k) =
        let p = eqb-false l (2 * a) e in
        let q = eqb-false l (2 * a + 1) k in
        inr (omega arith)

module _ (a N k l : ℕ) (f : List ℕ) (o : Over a N k (l ∷ f)) where
  head_start : a ≤ atom l
  unfolding onward
  head_start = leb-true a (atom l) (and_left (leb a (atom l)) (above (atom l) (map atom f)) o.atoms)

  head_above : above (atom l) (map atom f) ≡ true
  unfolding onward
  head_above = and_right (leb a (atom l)) (above (atom l) (map atom f)) o.atoms

  head_low : l < 2 * (a + N)
  unfolding all_below all
  head_low = ltb-true l (2 * (a + N)) (and_left (ltb l (2 * (a + N))) (all (λ x. ltb x (2 * (a + N))) f) o.low)

  rest_low : all_below (2 * (a + N)) f ≡ true
  unfolding all_below all
  rest_low = and_right (ltb l (2 * (a + N))) (all (λ x. ltb x (2 * (a + N))) f) o.low

shift : (a N : ℕ) (f : List ℕ) → all_below (2 * (a + suc N)) f ≡ all_below (2 * (suc a + N)) f
shift a N f = ap (λ x. all_below (2 * x) f) (omega arith)

-- behind a literal of atom a, and from the next atom on
over_rest : (a N k l : ℕ) (f : List ℕ) → atom l ≡ a → Over a (suc N) (suc k) (l ∷ f) → Over (suc a) N k f
over_rest a N k l f e o =
    record {
      atoms = above_onward a f (subst (λ (x : ℕ). above x (map atom f) ≡ true) e (head_above a (suc N) (suc k) l f o));
      low = sym (shift a N f) ∙ rest_low a (suc N) (suc k) l f o;
      size = let h = o.size in omega arith;
    }

over_later : (a N k l : ℕ) (f : List ℕ) → suc a ≤ atom l → Over a (suc N) k (l ∷ f) → Over (suc a) N k (l ∷ f)
unfolding onward
over_later a N k l f h o =
    record {
      atoms = and_both (le-leb (suc a) (atom l) h) (head_above a (suc N) k l f o);
      low = sym (shift a N (l ∷ f)) ∙ o.low;
      size = o.size;
    }

over_in : (N a k : ℕ) (f : List ℕ) → Over a N k f → Memᴰ f (clauses_from a N k)
unfolding clauses_from
over_in N a zero [] o = Memᴰ.head refl
over_in N a zero (l ∷ f) o = let h = o.size in absurd (omega arith)
over_in zero a (suc k) [] o = let h = o.size in absurd (omega arith)
over_in zero a (suc k) (l ∷ f) o =
    let h = atom_half l in
    let s = head_start a zero (suc k) l f o in
    let e = head_low a zero (suc k) l f o in
    absurd (omega arith)
over_in (suc N) a (suc k) [] o = let h = o.size in absurd (omega arith)
over_in (suc N) a (suc k) (l ∷ f) o =
    go (first_literal a l (head_start a (suc N) (suc k) l f o)) (λ p. over_in N (suc a) k f p) (λ p. over_in N (suc a) (suc k) (l ∷ f) p)
  where
    D : List (List ℕ)
    D = clauses_from (suc a) N k

    E : List (List ℕ)
    E = clauses_from (suc a) N (suc k)

    go :
        ((l ≡ 2 * a) ⊎ (l ≡ 2 * a + 1)) ⊎ (suc a ≤ atom l) → (Over (suc a) N k f → Memᴰ f D)
        → (Over (suc a) N (suc k) (l ∷ f) → Memᴰ (l ∷ f) E)
        → Memᴰ (l ∷ f) (map (λ g. (2 * a) ∷ g) D ++ (map (λ g. (2 * a + 1) ∷ g) D ++ E))
    go (inl (inl e)) rec later =
        let m = rec (over_rest a N k l f (ap atom e ∙ atom_even a) o) in
        Memᴰ.append_left (map (λ g. (2 * a + 1) ∷ g) D ++ E)
        (subst (λ (x : ℕ). Memᴰ (x ∷ f) (map (λ g. (2 * a) ∷ g) D)) (sym e) (map_in (λ g. (2 * a) ∷ g) m))
    go (inl (inr e)) rec later =
        let m = rec (over_rest a N k l f (ap atom e ∙ atom_odd a) o) in
        Memᴰ.append_right (map (λ g. (2 * a) ∷ g) D)
        (Memᴰ.append_left E (subst (λ (x : ℕ). Memᴰ (x ∷ f) (map (λ g. (2 * a + 1) ∷ g) D)) (sym e) (map_in (λ g. (2 * a + 1) ∷ g) m)))
    go (inr h) rec later =
        Memᴰ.append_right (map (λ g. (2 * a) ∷ g) D) (Memᴰ.append_right (map (λ g. (2 * a + 1) ∷ g) D) (later (over_later a N (suc k) l f h o)))

over_none : (a N : ℕ) → Over a N 0 []
unfolding onward all_below all
over_none a N = record { atoms = refl; low = refl; size = refl }

over_cons : (a N k l : ℕ) (f : List ℕ) → atom l ≡ a → l < 2 * (a + suc N) → Over (suc a) N k f → Over a (suc N) (suc k) (l ∷ f)
unfolding onward all_below all
over_cons a N k l f e h o =
    record {
      atoms = and_both (le-leb a (atom l) (omega arith)) (onward_above (atom l) f (subst (λ (x : ℕ). onward (suc x) f ≡ true) (sym e) o.atoms));
      low = and_both (lt-ltb l (2 * (a + suc N)) h) (shift a N f ∙ o.low);
      size = ap suc o.size;
    }

over_earlier : (a N k : ℕ) (f : List ℕ) → Over (suc a) N k f → Over a (suc N) k f
unfolding onward
over_earlier a N k f o = record { atoms = go f o.atoms; low = shift a N f ∙ o.low; size = o.size }
  where
    go : (f : List ℕ) → onward (suc a) f ≡ true → onward a f ≡ true
    go [] h = h
    go (l ∷ g) h =
        let k = leb-true (suc a) (atom l) (and_left (leb (suc a) (atom l)) (above (atom l) (map atom g)) h) in
        and_both (le-leb a (atom l) (omega arith)) (and_right (leb (suc a) (atom l)) (above (atom l) (map atom g)) h)

over_of : (N a k : ℕ) (f : List ℕ) → Memᴰ f (clauses_from a N k) → Over a N k f
unfolding clauses_from
over_of N a zero f m = rw (Memᴰ.eq_of_singleton m) (over_none a N)
over_of zero a (suc k) f m = absurd (Memᴰ.not-nil m)
over_of (suc N) a (suc k) f m =
    go (Memᴰ.append_cases (map (λ g. (2 * a) ∷ g) D) m) (λ g j. over_of N (suc a) k g j) (λ j. over_of N (suc a) (suc k) f j)
  where
    D : List (List ℕ)
    D = clauses_from (suc a) N k

    E : List (List ℕ)
    E = clauses_from (suc a) N (suc k)

    Rest : Type 0
    Rest = (g : List ℕ) → Memᴰ g D → Over (suc a) N k g

    Later : Type 0
    Later = Memᴰ f E → Over (suc a) N (suc k) f

    with_first : (l : ℕ) → atom l ≡ a → l < 2 * (a + suc N) → Rest → Memᴰ f (map (λ g. l ∷ g) D) → Over a (suc N) (suc k) f
    with_first l e h rec j = let w = map_of (λ g. l ∷ g) D j in rw w.same (over_cons a N k l w.it e h (rec w.it w.mem))

    behind : Memᴰ f (map (λ g. (2 * a + 1) ∷ g) D) ⊎ Memᴰ f E → Rest → Later → Over a (suc N) (suc k) f
    behind (inl j) rec later = with_first (2 * a + 1) (atom_odd a) (omega arith) rec j
    behind (inr j) rec later = over_earlier a N (suc k) f (later j)

    go : Memᴰ f (map (λ g. (2 * a) ∷ g) D) ⊎ Memᴰ f (map (λ g. (2 * a + 1) ∷ g) D ++ E) → Rest → Later → Over a (suc N) (suc k) f
    go (inl j) rec later = with_first (2 * a) (atom_even a) (omega arith) rec j
    go (inr j) rec later = behind (Memᴰ.append_cases (map (λ g. (2 * a + 1) ∷ g) D) j) rec later

-- ---- none stands twice
module _ {A : Type 0} where
  distinct_append :
      {xs : List A} → Distinct xs → (ys : List A) → Distinct ys → ((x : A) → Memᴰ x xs → Memᴰ x ys → ⊥)
      → Distinct (xs ++ ys)
  distinct_append nothing ys d apart = d
  distinct_append (another {x} {xs} new c) ys d apart =
      another (λ m. go (Memᴰ.append_cases xs m)) (distinct_append c ys d (λ z m k. apart z (Memᴰ.tail m) k))
    where
      go : Memᴰ x xs ⊎ Memᴰ x ys → ⊥
      go (inl m) = new m
      go (inr m) = apart x (Memᴰ.head refl) m

distinct_cons : (l : ℕ) {D : List (List ℕ)} → Distinct D → Distinct (map (λ g. l ∷ g) D)
distinct_cons l nothing = nothing
distinct_cons l (another {x} {xs} new d) = another (λ m. go (map_of (λ g. l ∷ g) xs m)) (distinct_cons l d)
  where
    tail_same : (f g : List ℕ) → ◌≡◌ {A = List ℕ} (l ∷ f) (l ∷ g) → f ≡ g
    tail_same f g e = cc

    go : Origin (λ (g : List ℕ). l ∷ g) (l ∷ x) xs → ⊥
    go w = new (rw (tail_same x w.it w.same) w.mem)

first_of : (l : ℕ) (f : List ℕ) (D : List (List ℕ)) → Memᴰ f (map (λ g. l ∷ g) D) → get_or f 0 0 ≡ l
first_of l f D m = let w = map_of (λ g. l ∷ g) D m in rw w.same

from_distinct : (N a k : ℕ) → Distinct (clauses_from a N k)
unfolding clauses_from
from_distinct N a zero = another (λ m. Memᴰ.not-nil m) nothing
from_distinct zero a (suc k) = nothing
from_distinct (suc N) a (suc k) =
    distinct_append (distinct_cons (2 * a) (from_distinct N (suc a) k)) (map (λ g. (2 * a + 1) ∷ g) D ++ E)
    (distinct_append (distinct_cons (2 * a + 1) (from_distinct N (suc a) k)) E (from_distinct N (suc a) (suc k))
    (λ f m j. later (2 * a + 1) f (atom_odd a) m j))
    (λ f m j. go f m (Memᴰ.append_cases (map (λ g. (2 * a + 1) ∷ g) D) j))
  where
    D : List (List ℕ)
    D = clauses_from (suc a) N k

    E : List (List ℕ)
    E = clauses_from (suc a) N (suc k)

    later : (l : ℕ) (f : List ℕ) → atom l ≡ a → Memᴰ f (map (λ g. l ∷ g) D) → Memᴰ f E → ⊥
    later l f e m j =
        let w = map_of (λ g. l ∷ g) D m in
        let s = head_start (suc a) N (suc k) l w.it (over_of N (suc a) (suc k) (l ∷ w.it) (rw w.same at j)) in
        omega arith

    go : (f : List ℕ) → Memᴰ f (map (λ g. (2 * a) ∷ g) D) → Memᴰ f (map (λ g. (2 * a + 1) ∷ g) D) ⊎ Memᴰ f E → ⊥
    go f m (inl j) =
        let p = first_of (2 * a) f D m in
        let q = first_of (2 * a + 1) f D j in
        omega arith
    go f m (inr j) = later (2 * a) f (atom_even a) m j

-- ---- of 1 to n literals
list_over : (N : ℕ) (f : List ℕ) → literal_list N f ≡ true → Over 0 N (length f) f
unfolding literal_list onward ascending
list_over N f h =
    record {
      atoms = go f (and_right (ascending f && all_below (2 * N) f) (ascending (map atom f)) h);
      low = ap (λ x. all_below (2 * x) f) (zero-add N) ∙ list_low N f h;
      size = refl;
    }
  where
    go : (f : List ℕ) → ascending (map atom f) ≡ true → onward 0 f ≡ true
    go [] h = refl
    go (l ∷ f) h = and_both (le-leb 0 (atom l) (omega arith)) h

over_list : (N k : ℕ) (f : List ℕ) → Over 0 N k f → literal_list N f ≡ true
unfolding literal_list onward ascending
over_list N k f o =
    let asc = go f o.atoms in
    and_both (and_both (ascending_atoms f asc) (sym (ap (λ x. all_below (2 * x) f) (zero-add N)) ∙ o.low)) asc
  where
    go : (f : List ℕ) → onward 0 f ≡ true → ascending (map atom f) ≡ true
    go [] h = refl
    go (l ∷ f) h = and_right (leb 0 (atom l)) (above (atom l) (map atom f)) h

possible_in : (N n : ℕ) (f : List ℕ) → GoodClause N n f → Memᴰ f (clauses_to N n)
unfolding clauses_to
possible_in N zero f g =
    let a = g.some_literal in
    let b = g.most in
    absurd (omega arith)
possible_in N (suc n) f g = go (decide (leb (length f) n)) (λ h. possible_in N n f (record { list = g.list; some_literal = g.some_literal; most = h }))
  where
    go :
        (leb (length f) n ≡ true) ⊎ (leb (length f) n ≡ false) → (length f ≤ n → Memᴰ f (clauses_to N n))
        → Memᴰ f (clauses_to N n ++ clauses_from 0 N (suc n))
    go (inl h) rec = Memᴰ.append_left (clauses_from 0 N (suc n)) (rec (leb-true (length f) n h))
    go (inr h) rec =
        let k = leb-false (length f) n h in
        let m = g.most in
        let e : length f ≡ suc n = omega arith in
        Memᴰ.append_right (clauses_to N n) (over_in N 0 (suc n) f (subst (λ (x : ℕ). Over 0 N x f) e (list_over N f g.list)))

possible_of : (N n : ℕ) (f : List ℕ) → Memᴰ f (clauses_to N n) → GoodClause N n f
unfolding clauses_to
possible_of N zero f m = absurd (Memᴰ.not-nil m)
possible_of N (suc n) f m = go (Memᴰ.append_cases (clauses_to N n) m) (λ k. possible_of N n f k)
  where
    go :
        Memᴰ f (clauses_to N n) ⊎ Memᴰ f (clauses_from 0 N (suc n)) → (Memᴰ f (clauses_to N n) → GoodClause N n f)
        → GoodClause N (suc n) f
    go (inl k) rec =
        let g = rec k in
        let h = g.most in
        record { list = g.list; some_literal = g.some_literal; most = omega arith }
    go (inr k) rec =
        let o = over_of N 0 (suc n) f k in
        let e = o.size in
        record { list = over_list N (suc n) f o; some_literal = omega arith; most = omega arith }

to_distinct : (N n : ℕ) → Distinct (clauses_to N n)
unfolding clauses_to
to_distinct N zero = nothing
to_distinct N (suc n) = distinct_append (to_distinct N n) (clauses_from 0 N (suc n)) (from_distinct N 0 (suc n)) apart
  where
    -- the ones have at most n literals, the others n + 1
    apart : (f : List ℕ) → Memᴰ f (clauses_to N n) → Memᴰ f (clauses_from 0 N (suc n)) → ⊥
    apart f m k =
        let h = (possible_of N n f m).most in
        let e = (over_of N 0 (suc n) f k).size in
        omega arith

pub counted : (N n : ℕ) → Counted N n
counted N n =
    record {
      list = clauses_to N n;
      only = possible_of N n;
      every = possible_in N n;
      once = to_distinct N n;
      count = to_count N n;
    }
