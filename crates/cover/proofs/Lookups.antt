-- Lookups of clauses in right rows, and mutex atoms by them. Assumes nothing.
use mathlib.Core.Bool.{Bool, true, false, not, ◌&&◌, ◌||◌}
use mathlib.Core.Path.{◌≡◌, refl, sym, ◌∙◌, ap}
use mathlib.Core.List.{List, [], ◌∷◌, map}
use Prim.Native.Nat.{ℕ, ◌+◌, ◌*◌, ◌≤◌, ◌<◌, min, max}
use native.Mathlib.Omega.{arith}
use native.Mathlib.Decide.{dec_lt}
use lib.Dec.{ltb}
use lib.ListN.{length, get_or, set, replicate}
use lib.Seq.{get_or-set_same, get_or-set_other}
use borrow.Author.Tests.{ltb-true, lt-ltb}
use Rattle.definitions.specs.Lists.{all, empty, ascending, compare_words, is_same}
use Rattle.definitions.specs.Literal.{most_literals, atom, fill, all_below, literal_list}
use Rattle.definitions.specs.Clauses.{width, row_of, clause_of, clause_right, row_at}
use Rattle.definitions.specs.Closure.{bit}
use Rattle.definitions.specs.Groups.{has_clause, mutex}
use Rattle.definitions.proofs.ListLaws.{and_left, and_right, and_both, or_left, or_right}
use Rattle.clause.specs.Rows.{RightRows}
use Rattle.cover.specs.Mutex.{Alone}

-- ---- rows that are right for N atoms are right for more
below_wider : (n m : ℕ) → n ≤ m → (f : List ℕ) → all_below n f ≡ true → all_below m f ≡ true
unfolding all_below all
below_wider n m h [] e = refl
below_wider n m h (x ∷ f) e =
    let low = ltb-true x n (and_left (ltb x n) (all (λ x. ltb x n) f) e) in
    and_both (lt-ltb x m (omega arith)) (below_wider n m h f (and_right (ltb x n) (all (λ x. ltb x n) f) e))

list_wider : (N M : ℕ) → N ≤ M → (f : List ℕ) → literal_list N f ≡ true → literal_list M f ≡ true
unfolding literal_list
list_wider N M h f e =
    let a = ascending f in
    let b = all_below (2 * N) f in
    let c = ascending (map atom f) in
    let ab = and_left (a && b) c e in
    and_both (and_both (and_left a b ab) (below_wider (2 * N) (2 * M) (omega arith) f (and_right a b ab))) (and_right (a && b) c e)

row_wider : (N M : ℕ) → N ≤ M → (row : List ℕ) → clause_right N row ≡ true → clause_right M row ≡ true
unfolding clause_right
row_wider N M h row e =
    let f = clause_of row in
    let a = not (empty f) in
    let b = literal_list N f in
    let c = is_same (compare_words row (row_of f)) in
    let ab = and_left (a && b) c e in
    and_both (and_both (and_left a b ab) (list_wider N M h f (and_right a b ab))) (and_right (a && b) c e)

pub rows_wider : (N M : ℕ) → N ≤ M → (w : List ℕ) → RightRows N w → RightRows M w
rows_wider N M h w r =
    record { ascending = r.ascending; right = λ i k. row_wider N M h (row_at w i) (r.right i k) }

-- ---- the rows that the code looks up
pub row_one : (l : ℕ) → set (replicate width fill) 0 l ≡ row_of (l ∷ [])
unfolding row_of width
row_one l = refl

pub row_two : (l m : ℕ) → set (set (replicate width fill) 0 l) 1 m ≡ row_of (l ∷ m ∷ [])
unfolding row_of width
row_two l m = refl

pub one_low : (l : ℕ) → l < most_literals → all_below most_literals (l ∷ []) ≡ true
unfolding all_below all
one_low l h = and_both (lt-ltb l most_literals h) refl

pub two_low : (l m : ℕ) → l < most_literals → m < most_literals → all_below most_literals (l ∷ m ∷ []) ≡ true
unfolding all_below all
two_low l m h k = and_both (lt-ltb l most_literals h) (one_low m k)

-- ---- marks of atoms that are mutex with every other
bit_on : (b : Bool) → bit b ≡ 1 → b ≡ true
unfolding bit
bit_on true e = refl
bit_on false e = absurd (omega arith)

bit_off : (b : Bool) → (bit b ≡ 1 → ⊥) → b ≡ false
unfolding bit
bit_off true h = absurd (h refl)
bit_off false h = refl

module _ (C : List (List ℕ)) where
  abbrev pub AloneBelow : List ℕ → ℕ → Type 0
  AloneBelow alone n = (x : ℕ) → x < n → get_or alone x 0 ≡ bit (has_clause C ((2 * x + 1) ∷ []))

  pub alone_on :
      (alone : List ℕ) (a l v : ℕ) (b : Bool) → a < length alone → AloneBelow alone a → l ≡ 2 * a + 1 → b ≡ has_clause C (l ∷ [])
      → v ≡ bit b → AloneBelow (set alone a v) (a + 1)
  alone_on alone a l v b inside h el eb ev x low = go (dec_lt x a)
    where
      go : Dec (x < a) → get_or (set alone a v) x 0 ≡ bit (has_clause C ((2 * x + 1) ∷ []))
      go (yes k) = get_or-set_other alone a x v 0 (λ e. absurd (omega arith)) ∙ h x k
      go (no k) =
          let e : x ≡ a = omega arith in
          rw e (get_or-set_same alone a v 0 inside ∙ ev ∙ ap bit (eb ∙ ap (λ (z : ℕ). has_clause C (z ∷ [])) el))

  module _ (alone : List ℕ) (known : Alone C alone) (a b : ℕ) (high : a < length alone) (low : b < a) where
    mutex_is :
        mutex C a b
        ≡ (has_clause C ((2 * b + 1) ∷ (2 * a + 1) ∷ []) || has_clause C ((2 * a + 1) ∷ []) || has_clause C ((2 * b + 1) ∷ []))
    unfolding mutex
    mutex_is =
        let e : min (2 * a + 1) (2 * b + 1) ≡ 2 * b + 1 = omega arith in
        let f : max (2 * a + 1) (2 * b + 1) ≡ 2 * a + 1 = omega arith in
        rw (e, f)

    pub mutex_first : get_or alone a 0 ≡ 1 → true ≡ mutex C a b
    mutex_first h =
        sym (mutex_is
        ∙ or_left (has_clause C ((2 * b + 1) ∷ []))
        (or_right (has_clause C ((2 * b + 1) ∷ (2 * a + 1) ∷ [])) (bit_on (has_clause C ((2 * a + 1) ∷ [])) (sym (known.mark a high) ∙ h))))

    pub mutex_second : get_or alone b 0 ≡ 1 → true ≡ mutex C a b
    mutex_second h =
        sym (mutex_is
        ∙ or_right (has_clause C ((2 * b + 1) ∷ (2 * a + 1) ∷ []) || has_clause C ((2 * a + 1) ∷ []))
        (bit_on (has_clause C ((2 * b + 1) ∷ [])) (sym (known.mark b (omega arith)) ∙ h)))

    pub mutex_two :
        (get_or alone a 0 ≡ 1 → ⊥) → (get_or alone b 0 ≡ 1 → ⊥) → (r : Bool) (l m : ℕ) → l ≡ 2 * b + 1 → m ≡ 2 * a + 1
        → r ≡ has_clause C (l ∷ m ∷ []) → r ≡ mutex C a b
    mutex_two ha hb r l m el em er =
        let fa : has_clause C ((2 * a + 1) ∷ []) ≡ false = bit_off (has_clause C ((2 * a + 1) ∷ [])) (λ e. ha (known.mark a high ∙ e)) in
        let fb : has_clause C ((2 * b + 1) ∷ []) ≡ false = bit_off (has_clause C ((2 * b + 1) ∷ [])) (λ e. hb (known.mark b (omega arith) ∙ e)) in
        er ∙ rw (mutex_is, fa, fb, el, em) (sym (or_none (has_clause C ((2 * b + 1) ∷ (2 * a + 1) ∷ []))))
      where
        or_none : (b : Bool) → (b || false || false) ≡ b
        or_none true = refl
        or_none false = refl
