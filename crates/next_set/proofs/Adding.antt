-- What an operator adds, by rows, flags and a list of literals. Assumes nothing.
use mathlib.Core.Bool.{Bool, true, false, not, ◌&&◌, cond}
use mathlib.Core.Logic.{◌⊎◌, inl, inr}
use mathlib.Core.Option.{Option}
use mathlib.Core.Path.{◌≡◌, refl, sym, ◌∙◌, ap, subst}
use mathlib.Core.List.{List, [], ◌∷◌, ◌++◌, map, Memᴰ}
use Prim.Native.Nat.{ℕ, zero, suc, ◌+◌, ◌*◌, ◌≤◌, ◌<◌}
use native.Mathlib.Omega.{arith}
use lib.Dec.{eqb, ltb}
use lib.ListN.{length, get_or, take}
use borrow.Author.Tests.{ltb-true, lt-ltb, not-true}
use Rattle.definitions.specs.Lists.{all, keep, each, range, below, member, empty, ascending, compare_words, is_same}
use Rattle.definitions.specs.Image.{Operator, Task}
use Rattle.definitions.specs.Closure.{has, bit, closure, contradictory}
use Rattle.definitions.specs.Clauses.{width, clause_of, row_of, clause_right, row_at}
use Rattle.definitions.specs.Kept.{kept, guaranteed}
use Rattle.definitions.specs.Synthesis.{insert_literal, guarantees, weakened_by}
use Rattle.definitions.proofs.ListLaws.{decide, never, or_false_left, and_left, and_right, and_both, all_at, all_of, keep_of, table_length, any_in}
use Rattle.definitions.proofs.SetLaws.{below_of, range_of, each_none}
use Rattle.clause.specs.Rows.{row_count, clauses_of, ClausesRead, RightRows}
use Rattle.clause.proofs.RowLaws.{clauses_length}
use Rattle.clause.proofs.ReadLaws.{read_right}
use Rattle.judge.specs.Judging.{fail_flags, guaranteed_flags}
use Rattle.judge.proofs.Guaranteed.{guaranteed_has}
use Rattle.clause_set.specs.Put.{put_all, extended}
use Rattle.definitions.specs.Literal.{most_atoms, most_literals, atom, all_below, literal_list}
use Rattle.next_set.specs.Build.{is_due, some_fails, added_row, added_for, added_by}
use Rattle.next_set.specs.Post.{Listed, Weakening}
use Rattle.next_set.proofs.Flags.{flag_has, flags_length}
use Rattle.definitions.proofs.ListLaws.{keep_agree}
use Rattle.definitions.proofs.LiteralLaws.{list_low, list_ascends}

-- ---- lists of lists
pub each_agree : {A B : Type 0} (g h : A → List B) (xs : List A) → ((x : A) → Memᴰ x xs → g x ≡ h x) → each g xs ≡ each h xs
unfolding each
each_agree g h [] e = refl
each_agree g h (x ∷ xs) e = rw (e x (Memᴰ.head refl), each_agree g h xs (λ y m. e y (Memᴰ.tail m)))

-- by the places of a list
pub each_places : {A B : Type 0} (g : A → List B) (d : A) (xs : List A) → each (λ i. g (get_or xs i d)) (range 0 (length xs)) ≡ each g xs
unfolding each range
each_places g d [] = refl
each_places g d (x ∷ xs) = ap (λ l. g x ++ l) (shift (λ i. g (get_or (x ∷ xs) i d)) 0 (length xs) ∙ each_places g d xs)
  where
    shift : {B : Type 0} (h : ℕ → List B) (i k : ℕ) → each h (range (suc i) k) ≡ each (λ j. h (suc j)) (range i k)
    shift h i zero = refl
    shift h i (suc k) = ap (λ l. h (suc i) ++ l) (shift h (suc i) k)

-- ---- what an operator adds for a clause
extended_all : (f xs : List ℕ) → map (λ l. insert_literal l f) (keep (λ l. not (member (atom l) (map atom f))) xs) ≡ each (extended f) xs
unfolding each extended keep
extended_all f [] = refl
extended_all f (l ∷ xs) = go (member (atom l) (map atom f)) refl (extended_all f xs)
  where
    go :
        (b : Bool) → member (atom l) (map atom f) ≡ b
        → map (λ l. insert_literal l f) (keep (λ l. not (member (atom l) (map atom f))) xs) ≡ each (extended f) xs
        → map (λ l. insert_literal l f) (keep (λ l. not (member (atom l) (map atom f))) (l ∷ xs)) ≡ each (extended f) (l ∷ xs)
    go true e rec = rw (e, keep) rec
    go false e rec = rw (e, keep) (ap (λ (L : List (List ℕ)). insert_literal l f ∷ L) rec)

module _ (t : Task) (C : List (List ℕ)) (o : Operator) where
  weakened_each : (f : List ℕ) → weakened_by t C f o ≡ each (extended f) (guarantees t C o)
  unfolding weakened_by
  weakened_each f = extended_all f (guarantees t C o)

  -- the listed literals are those that the operator guarantees
  pub listed_guarantees :
      (atoms : ℕ) (flags : List ℕ) → t.atoms ≡ atoms → flags ≡ guaranteed_flags atoms C o o.precondition
      → keep (has flags) (below (length flags)) ≡ guarantees t C o
  unfolding guarantees guaranteed_flags
  listed_guarantees atoms flags a e =
      let l : length flags ≡ 2 * atoms = ap length e ∙ size in
      rw (l, ← a, e, ← a)
      (keep_agree (has (guaranteed_flags t.atoms C o o.precondition))
      (guaranteed t.atoms C o o.precondition (closure t.atoms C o.precondition)) (below (2 * t.atoms))
      (λ x m. guaranteed_has t.atoms C o o.precondition x (below_of (2 * t.atoms) m)))
    where
      size : length (guaranteed_flags atoms C o o.precondition) ≡ 2 * atoms
      size = table_length (λ m. bit (guaranteed atoms C o o.precondition (closure atoms C o.precondition) m)) (2 * atoms)

  module _ (atoms k : ℕ) (flags : List ℕ) (counted : t.atoms ≡ atoms) (fails : flags ≡ fail_flags atoms C o C) where
    due_fails : (i : ℕ) → i < length C → is_due C flags k i ≡ (eqb (length (get_or C i [])) k && not (kept t.atoms C o (get_or C i [])))
    unfolding is_due fail_flags
    due_fails i h =
        let l = flags_length (λ f. not (kept atoms C o f)) C flags fails in
        rw (flag_has (λ f. not (kept atoms C o f)) C flags fails i (omega arith), counted)

    -- a clause fails only where the closure of C and the precondition is not contradictory
    fails_consistent :
        (f : List ℕ) → (eqb (length f) k && not (kept t.atoms C o f)) ≡ true
        → contradictory atoms (closure atoms C o.precondition) ≡ false
    unfolding kept
    fails_consistent f d =
        let e = not-true (kept t.atoms C o f) (and_right (eqb (length f) k) (not (kept t.atoms C o f)) d) in
        subst (λ (m : ℕ). contradictory m (closure m C o.precondition) ≡ false) counted
        (or_false_left (contradictory t.atoms (closure t.atoms C o.precondition)) _ e)

    -- the rows' additions are the operator's; the list is not asked where no clause fails
    pub rows_added :
        (list : List ℕ) → (contradictory atoms (closure atoms C o.precondition) ≡ false → list ≡ guarantees t C o)
        → each (added_row C flags list k) (range 0 (length C)) ≡ added_by t C k o
    unfolding added_by added_row added_for
    rows_added list listed =
        each_agree (added_row C flags list k) (λ i. added_for t C k o (get_or C i [])) (range 0 (length C)) (λ i m. row i (range_of 0 (length C) m).1)
        ∙ each_places (added_for t C k o) [] C
      where
        at :
            (f : List ℕ) (b : Bool) → (eqb (length f) k && not (kept t.atoms C o f)) ≡ b
            → cond b (each (extended f) list) [] ≡ cond b (weakened_by t C f o) []
        at f true d = rw (listed (fails_consistent f d)) (sym (weakened_each f))
        at f false d = refl

        row : (i : ℕ) → i < 0 + length C → added_row C flags list k i ≡ added_for t C k o (get_or C i [])
        row i h = rw (due_fails i (omega arith)) (at (get_or C i []) (eqb (length (get_or C i [])) k && not (kept t.atoms C o (get_or C i []))) refl)

-- an operator under which no clause of k literals fails adds none
pub none_added : (t : Task) (C : List (List ℕ)) (o : Operator) (k : ℕ) → some_fails t C k o ≡ false → added_by t C k o ≡ []
unfolding added_by added_for some_fails
none_added t C o k h = each_none (added_for t C k o) C (λ f m. rw (off f m (decide (eqb (length f) k && not (kept t.atoms C o f)))))
  where
    off :
        (f : List ℕ) → Memᴰ f C
        → ((eqb (length f) k && not (kept t.atoms C o f)) ≡ true) ⊎ ((eqb (length f) k && not (kept t.atoms C o f)) ≡ false)
        → (eqb (length f) k && not (kept t.atoms C o f)) ≡ false
    off f m (inl e) = never (any_in (λ g. eqb (length g) k && not (kept t.atoms C o g)) m e) h
    off f m (inr e) = e

-- the listed literals
pub listed_low : (flags list : List ℕ) (k : ℕ) → Listed flags list k → length flags ≤ most_literals → all_below most_literals (take k list) ≡ true
unfolding all_below
listed_low flags list k l few =
    rw l.words
    (all_of (λ x. ltb x most_literals) (keep (has flags) (below (length flags)))
    (λ x m. let b = below_of (length flags) (keep_of (has flags) (below (length flags)) m).0 in lt-ltb x most_literals (omega arith)))

pub no_words : (list : List ℕ) → all_below most_literals (take 0 list) ≡ true
unfolding all_below all
no_words list = refl

-- ---- rows that are right over fewer atoms
below_more : (k m : ℕ) (xs : List ℕ) → k ≤ m → all_below k xs ≡ true → all_below m xs ≡ true
unfolding all_below
below_more k m xs h e = all_of (λ x. ltb x m) xs (λ x i. let b = ltb-true x k (all_at (λ x. ltb x k) e i) in lt-ltb x m (omega arith))

pub list_more : (N M : ℕ) (f : List ℕ) → N ≤ M → literal_list N f ≡ true → literal_list M f ≡ true
unfolding literal_list
list_more N M f h e =
    and_both (and_both (list_ascends N f e) (below_more (2 * N) (2 * M) f (omega arith) (list_low N f e)))
    (and_right (ascending f && all_below (2 * N) f) (ascending (map atom f)) e)

pub rows_more : (N M : ℕ) (w : List ℕ) → N ≤ M → RightRows N w → RightRows M w
unfolding clause_right
rows_more N M w h r = record { ascending = r.ascending; right = λ i k. right i (r.right i k) }
  where
    right : (i : ℕ) → clause_right N (row_at w i) ≡ true → clause_right M (row_at w i) ≡ true
    right i e =
        let f = clause_of (row_at w i) in
        let same = is_same (compare_words (row_at w i) (row_of f)) in
        let a = and_left (not (empty f) && literal_list N f) same e in
        and_both (and_both (and_left (not (empty f)) (literal_list N f) a) (list_more N M f h (and_right (not (empty f)) (literal_list N f) a)))
        (and_right (not (empty f) && literal_list N f) same e)

-- a flag for each clause
pub fail_count : (C : List (List ℕ)) (o : Operator) (atoms : ℕ) (flags : List ℕ) → flags ≡ fail_flags atoms C o C → length flags ≡ length C
unfolding fail_flags
fail_count C o atoms flags fails = flags_length (λ f. not (kept atoms C o f)) C flags fails

-- ---- one operator, by the rows of clause words
module _ (w : List ℕ) (o : Operator) (atoms k : ℕ) (flags : List ℕ) (fails : flags ≡ fail_flags atoms (clauses_of w) o (clauses_of w)) where
  pub fails_length : length flags ≡ row_count w
  fails_length = fail_count (clauses_of w) o atoms flags fails ∙ clauses_length w

  pub weakening :
      atoms ≤ most_atoms → ClausesRead atoms w → (list : List ℕ) → all_below most_literals list ≡ true → k < width
      → Weakening w flags list k
  weakening few read list low short =
      record {
        rows = rows_more atoms most_atoms w few (read_right atoms w read);
        flagged = fails_length;
        low = low;
        short = short;
      }

  pub under_added :
      (t : Task) → t.atoms ≡ atoms → (rows : ℕ) (s : Option (List (List ℕ))) (list : List ℕ)
      → (contradictory atoms (closure atoms (clauses_of w) o.precondition) ≡ false → list ≡ guarantees t (clauses_of w) o)
      → put_all rows (each (added_row (clauses_of w) flags list k) (range 0 (row_count w))) s ≡ put_all rows (added_by t (clauses_of w) k o) s
  under_added t counted rows s list listed = rw (← clauses_length w, rows_added t (clauses_of w) o atoms k flags counted fails list listed)
