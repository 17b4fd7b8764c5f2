-- The set that is built is the next set, and does not fit exactly if the next set does not. Assumes nothing.
use mathlib.Core.Bool.{Bool, true, false, not, ◌&&◌}
use mathlib.Core.Logic.{◌⊎◌, inl, inr}
use mathlib.Core.Option.{Option, none, some}
use mathlib.Core.Path.{◌≡◌, refl, ◌∙◌, ap, subst}
use mathlib.Core.List.Memᴰ
use mathlib.Core.List.{List, [], ◌∷◌, ◌++◌, map, Memᴰ}
use Prim.Native.Nat.{ℕ, zero, suc, ◌+◌, ◌-◌, ◌≤◌, ◌<◌}
use native.Mathlib.Omega.{arith}
use lib.Dec.{eqb}
use lib.ListN.{length}
use borrow.Author.Tests.{eqb-true, eq-eqb, lt-ltb, le-leb, lt-leb, not-true}
use Rattle.definitions.specs.Lists.{any, all, keep, each, range}
use Rattle.definitions.specs.Literal.{most_atoms}
use Rattle.definitions.specs.Image.{Operator, Task}
use Rattle.definitions.specs.Clauses.{width}
use Rattle.definitions.specs.Kept.{kept}
use Rattle.definitions.specs.Synthesis.{insert_all, contains, undominated, tested, passes}
use Rattle.definitions.specs.Synthesis.{weakened_by, weakened, next_of, next, fits}
use Rattle.definitions.proofs.ListLaws.{and_left, and_right, and_both, map_in, keep_in, keep_of, keep_agree}
use Rattle.definitions.proofs.OrderLaws.{up, insert_all_up, keep_up}
use Rattle.definitions.proofs.SetLaws.{each_of, insert_all_of, insert_literal_keeps, test_of, passes_all, Weak, literal_of_lem, weakened_of}
use Rattle.definitions.specs.Clauses.{GoodClause}
use Rattle.definitions.proofs.SetRight.{insert_length, good_insert, surviving}
use Rattle.clause.proofs.ClauseLaws.{up_distinct, same_set}
use Rattle.clause_set.specs.Put.{put_all}
use Rattle.next_set.specs.Build.{fitted, survivors, added_for, added_by, added_at, added_from}
use Rattle.definitions.proofs.Counting.{Part, part_length}
use Rattle.clause_set.proofs.Insertion.{puts_none, puts_append}
use Rattle.definitions.proofs.Inserted.{Goods, all_keeps, all_in_lem}
use Rattle.definitions.proofs.Undominated.{least_of, least_in, Antichain}
use Rattle.next_set.proofs.Levels.{Stage, Grown, puts, next_stage}

pub each_in : {A B : Type 0} (f : A → List B) {x : A} {y : B} (xs : List A) → Memᴰ x xs → Memᴰ y (f x) → Memᴰ y (each f xs)
unfolding each
each_in f [] m k = absurd (Memᴰ.not-nil m)
each_in f {x} {y} (z ∷ xs) m k = go (Memᴰ.cases_cons m) (λ j. each_in f xs j k)
  where
    go : (x ≡ z) ⊎ Memᴰ x xs → (Memᴰ x xs → Memᴰ y (each f xs)) → Memᴰ y (f z ++ each f xs)
    go (inl e) rec = Memᴰ.append_left (each f xs) (rw e at k)
    go (inr j) rec = Memᴰ.append_right (f z) (rec j)

module _ (t : Task) (C : List (List ℕ)) where
  abbrev fine : Operator → List ℕ → Bool
  fine o f = kept t.atoms C o f

  -- the clauses of C that pass the test
  pub survivors_are : map (λ x. x.clause) (keep passes (tested t C)) ≡ survivors t C
  unfolding survivors
  survivors_are =
      surviving t C
      ∙ keep_agree (λ f. passes (test_of t C f)) (λ f. all (λ o. fine o f) t.operators) C (λ f m. passes_all t C f)

  -- no clause fails exactly if all survive
  pub all_pass : (D : List (List ℕ)) → all passes (map (test_of t C) D) ≡ all (λ f. all (λ o. fine o f) t.operators) D
  unfolding all
  all_pass [] = refl
  all_pass (f ∷ D) = rw (passes_all t C f, all_pass D)

  module _ {g : List ℕ} where
    weakened_in : (n : ℕ) (w : Weak t C g) → length w.clause < n → Memᴰ g (each (weakened t n C) (tested t C))
    unfolding tested weakened
    weakened_in n w h =
        each_in (weakened t n C) (map (test_of t C) C) (map_in (test_of t C) w.mem)
        (rw (lt-ltb (length w.clause) n h, weakened)
        (each_in (weakened_by t C w.clause) (test_of t C w.clause).failing
        (keep_in (λ o. not (fine o w.clause)) w.one (ap not w.fails)) w.there))

    added_of : (k : ℕ) → Memᴰ g (added_at t C k) → (w : Weak t C g) × (length w.clause ≡ k)
    unfolding added_at added_by added_for
    added_of k m =
        let a = each_of (added_by t C k) t.operators m in
        let b = each_of (added_for t C k a.it) C a.there in
        go a.it a.mem b.it b.mem (eqb (length b.it) k && not (fine a.it b.it)) refl b.there
      where
        go :
            (o : Operator) → Memᴰ o t.operators → (f : List ℕ) → Memᴰ f C → (b : Bool)
            → (eqb (length f) k && not (fine o f)) ≡ b
            → Memᴰ g (added_for t C k o f) → (w : Weak t C g) × (length w.clause ≡ k)
        go o mo f mf true e j = (
          record {
            clause = f;
            mem = mf;
            operator = o;
            one = mo;
            fails = not-true (fine o f) (and_right (eqb (length f) k) (not (fine o f)) e);
            there = rw (e, added_for) at j;
          },
          eqb-true (length f) k (and_left (eqb (length f) k) (not (fine o f)) e),
        )
        go o mo f mf false e j = absurd (Memᴰ.not-nil (rw (e, added_for) at j))

    added_in : (w : Weak t C g) (k : ℕ) → length w.clause ≡ k → Memᴰ g (added_at t C k)
    unfolding added_at added_by added_for
    added_in w k h =
        each_in (added_by t C k) t.operators w.one
        (each_in (added_for t C k w.operator) C w.mem
        (rw (and_both (eq-eqb (length w.clause) k h) (ap not w.fails), added_for) w.there))

  -- the survivors of a set in row order are in row order
  pub survivors_up : up C ≡ true → up (survivors t C) ≡ true
  unfolding survivors
  survivors_up order = keep_up (λ f. all (λ o. fine o f) t.operators) C order

-- ---- C is a set of the synthesis, in a buffer of its rows
module _
    (t : Task) (n rows : ℕ) (C : List (List ℕ)) (few : t.atoms ≤ most_atoms) (some-n : 1 ≤ n) (narrow : n ≤ width)
    (good : (f : List ℕ) → Memᴰ f C → GoodClause t.atoms n f) (order : up C ≡ true) (anti : Antichain C) (inside : length C ≤ rows) where
  abbrev U : List (List ℕ)
  U = insert_all (each (weakened t n C) (tested t C)) (map (λ x. x.clause) (keep passes (tested t C)))

  -- a survivor, or a weakened clause
  abbrev From : List ℕ → Type 0
  From g = Memᴰ g (survivors t C) ⊎ ((w : Weak t C g) × (length w.clause < n))

  from : {g : List ℕ} → Memᴰ g U → From g
  from {g} m = go (insert_all_of (each (weakened t n C) (tested t C)) (map (λ x. x.clause) (keep passes (tested t C))) m)
    where
      go : Memᴰ g (each (weakened t n C) (tested t C)) ⊎ Memᴰ g (map (λ x. x.clause) (keep passes (tested t C))) → From g
      go (inl k) = inr (weakened_of t C n k)
      go (inr k) = inl (subst (λ (D : List (List ℕ)). Memᴰ g D) (survivors_are t C) k)

  survivor_of : {g : List ℕ} → Memᴰ g (survivors t C) → Memᴰ g C
  unfolding survivors
  survivor_of m = (keep_of (λ f. all (λ o. kept t.atoms C o f) t.operators) C m).0

  weak_good : {g : List ℕ} (w : Weak t C g) → length w.clause < n → GoodClause t.atoms n g
  weak_good {g} w h =
      let l = literal_of_lem t C w.clause g w.operator w.there in
      rw l.same (good_insert t.atoms n l.it w.clause (good w.clause w.mem) (lt-ltb (length w.clause) n h) l.low l.new)

  weak_length : {g : List ℕ} (w : Weak t C g) → length g ≡ suc (length w.clause)
  weak_length {g} w =
      let l = literal_of_lem t C w.clause g w.operator w.there in
      ap length l.same ∙ insert_length l.it w.clause

  weak_part : {g : List ℕ} (w : Weak t C g) → Part w.clause g
  weak_part {g} w x m =
      let l = literal_of_lem t C w.clause g w.operator w.there in
      rw l.same (insert_literal_keeps l.it w.clause m)

  wider : (f : List ℕ) → GoodClause t.atoms n f → GoodClause t.atoms width f
  wider f g = record { list = g.list; some_literal = g.some_literal; most = (let h = g.most in omega arith) }

  union_good : (f : List ℕ) → Memᴰ f U → GoodClause t.atoms n f
  union_good f m = go (from m)
    where
      go : From f → GoodClause t.atoms n f
      go (inl k) = good f (survivor_of k)
      go (inr w) = weak_good w.0 w.1

  goods : Goods t.atoms U
  goods f m = wider f (union_good f m)

  weak_in : {g : List ℕ} (w : Weak t C g) → length w.clause < n → Memᴰ g U
  weak_in {g} w h =
      all_in_lem t.atoms (each (weakened t n C) (tested t C)) (map (λ x. x.clause) (keep passes (tested t C))) g few
      (λ f m. let v = weakened_of t C n m in wider f (weak_good v.0 v.1))
      (λ f m. wider f (good f (survivor_of (subst (λ (D : List (List ℕ)). Memᴰ f D) (survivors_are t C) m))))
      (weakened_in t C n w h)

  survivor_in : {g : List ℕ} → Memᴰ g (survivors t C) → Memᴰ g U
  survivor_in {g} m = all_keeps (each (weakened t n C) (tested t C)) (map (λ x. x.clause) (keep passes (tested t C))) g (rw (survivors_are t C) m)

  -- no survivor is dominated: it would contain another clause of C
  survivor_least : {g : List ℕ} → Memᴰ g (survivors t C) → Memᴰ g (undominated U)
  survivor_least {g} m = least_in U g (survivor_in m) (λ f mf l p. bad f l p (from mf))
    where
      bad : (f : List ℕ) → length f < length g → Part f g → From f → ⊥
      bad f l p (inl k) = anti g f (survivor_of m) (survivor_of k) l p
      bad f l p (inr w) =
          let e = weak_length w.0 in
          anti g w.0.clause (survivor_of m) w.0.mem (omega arith) (λ x j. p x (weak_part w.0 x j))

  abbrev Staged : ℕ → List (List ℕ) → Type 0
  Staged k D = Stage t.atoms rows few U goods k D

  start : Staged 1 (survivors t C)
  start =
      record {
        order = survivors_up t C order;
        least = λ f m. survivor_least m;
        lower = λ f m l. go f l (from (least_of U f m).0);
        room = (let h = part_length (up_distinct (survivors t C) (survivors_up t C order)) C (λ f m. survivor_of m) in omega arith);
      }
    where
      go : (f : List ℕ) → length f ≤ 1 → From f → Memᴰ f (survivors t C)
      go f l (inl k) = k
      go f l (inr w) =
          let e = weak_length w.0 in
          let g = (good w.0.clause w.0.mem).some_literal in
          absurd (omega arith)

  -- all clauses are put in
  abbrev Final : Option (List (List ℕ)) → Type 0
  Final none = rows < length (undominated U)
  Final (some E) = Staged n E

  levels : (j k : ℕ) (D : List (List ℕ)) → k + j ≡ n → Staged k D → Part (survivors t C) D → Final (put_all rows (added_from t C k j) (some D))
  unfolding added_from range each put_all
  levels zero k D e s p =
      let q : k ≡ n = omega arith in
      subst (λ (m : ℕ). Staged m D) q s
  levels (suc j) k D e s p =
      rw (puts_append rows (added_at t C k) (added_from t C (suc k) j) (some D))
      (go (put_all rows (added_at t C k) (some D)) (puts t.atoms rows few U goods k (added_at t C k) D s each_right)
      (λ E a b. levels j (suc k) E (omega arith) a b))
    where
      each_right : (f : List ℕ) → Memᴰ f (added_at t C k) → Memᴰ f U × (length f ≡ suc k)
      each_right f m =
          let w = added_of t C k m in
          let h = w.1 in
          (weak_in w.0 (omega arith), weak_length w.0 ∙ ap suc h)

      there :
          (E : List (List ℕ)) → Grown t.atoms rows few U goods k D (added_at t C k) (some E) → (f : List ℕ) → Memᴰ f (undominated U)
          → length f ≡ suc k → From f → Memᴰ f E
      there E g f m l (inl q) = g.1 f (p f q)
      there E g f m l (inr w) =
          let h = weak_length w.0 in
          g.2 f (added_in t C w.0 k (omega arith)) m

      go :
          (q : Option (List (List ℕ))) → Grown t.atoms rows few U goods k D (added_at t C k) q
          → ((E : List (List ℕ)) → Staged (suc k) E → Part (survivors t C) E → Final (put_all rows (added_from t C (suc k) j) (some E)))
          → Final (put_all rows (added_from t C (suc k) j) q)
      go none g rec = rw (puts_none rows (added_from t C (suc k) j)) g
      go (some E) g rec =
          rec E (next_stage t.atoms rows few U goods k E g.0 (λ f m l. there E g f m l (from (least_of U f m).0))) (λ f m. g.1 f (p f m))

  next_up : up (undominated U) ≡ true
  unfolding undominated
  next_up =
      keep_up (λ f. not (any (contains f) U)) U
      (insert_all_up (each (weakened t n C) (tested t C)) (map (λ x. x.clause) (keep passes (tested t C))) (rw (survivors_are t C) (survivors_up t C order)))

  finish : (q : Option (List (List ℕ))) → Final q → q ≡ fitted rows (undominated U)
  unfolding fitted fits
  finish none h = rw (lt-leb (length (undominated U)) rows h)
  finish (some E) s =
      let e : E ≡ undominated U = same_set E (undominated U) s.order next_up s.least (λ f m. s.lower f m (union_good f (least_of U f m).0).most) in
      let l : length (undominated U) ≤ rows = subst (λ (D : List (List ℕ)). length D ≤ rows) e s.room in
      rw (le-leb (length (undominated U)) rows l, e)

  -- survivors, then the weakened clauses by rising length
  pub next_built : put_all rows (added_from t C 1 (n - 1)) (some (survivors t C)) ≡ fitted rows (next t n C)
  unfolding next next_of
  next_built =
      finish (put_all rows (added_from t C 1 (n - 1)) (some (survivors t C)))
      (levels (n - 1) 1 (survivors t C) (omega arith) start (λ f m. m))
