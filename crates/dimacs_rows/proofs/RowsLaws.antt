-- Rows stored one after the other, and the set that they make. Assumes nothing.
use mathlib.Core.Path.{◌≡◌, refl, sym, ◌∙◌, ap, subst}
use mathlib.Core.List.{List, [], ◌∷◌, ◌++◌}
use Rattle.std.proofs.Common.{Option, Some, None}
use Rattle.std.specs.Bool.{then_some}
use mathlib.Core.Bool.{Bool, true, false}
use lib.Dec.{leb}
use borrow.Author.Tests.{leb-true, leb-false}
use Prim.Native.Nat.{ℕ, ◌+◌, ◌*◌, ◌≤◌, ◌<◌}
use native.Mathlib.Nat.{mul-suc, mul-zero}
use native.Mathlib.Omega.{arith}
use lib.ListN.{length, take, drop, length-append}
use lib.Seq.{length-take-le, take_at, take-append-le}
use Rattle.definitions.specs.Literal.{most_atoms}
use Rattle.definitions.specs.Clauses.{width, most_rows, clause_of, clause_words}
use Rattle.definitions.specs.Synthesis.{insert_all}
use Rattle.definitions.proofs.MergeLaws.{rows_longer}
use Rattle.definitions.proofs.OrderLaws.{up, insert_all_up}
use Rattle.definitions.proofs.MergeLaws.{merge_none, insert_all_append}
use Rattle.clause.specs.Rows.{row_count, clauses_of}
use Rattle.clause.proofs.RowLaws.{clauses_length, rows_of}
use Rattle.clause.proofs.WordLaws.{words_back}
use Rattle.clause_set.specs.Held.{ClauseRow}
use Rattle.writing.specs.Writing.{Wrote}
use Rattle.writing.proofs.Writes.{wrote_between}
use Rattle.row_sort.specs.Sorted.{Sortable, Sorted}
use Rattle.row_sort.proofs.SetWords.{clauses_append, one_clause, sortable_append}
use Rattle.dimacs_rows.specs.Rows.{most_stored, Rows, Fit, Makes, Stores}
use Rattle.dimacs_rows.specs.Collected.{Set, Comes}

-- nothing is stored
pub none_rows : (w : List ℕ) → Rows w 0
unfolding row_count width
none_rows w =
    record {
      inside = omega arith;
      right = subst Sortable (sym none) (record { whole = refl; right = λ i h. absurd (omega arith) });
    }
  where
    none : take (width * 0) w ≡ []
    none = ap (λ n. take n w) (mul-zero width)

-- one clause more in both sets
makes_more : (A E : List (List ℕ)) (f : List ℕ) → insert_all A [] ≡ insert_all E [] → insert_all (A ++ (f ∷ [])) [] ≡ insert_all (E ++ (f ∷ [])) []
makes_more A E f h =
    insert_all_append A (f ∷ []) [] ∙ ap (insert_all (f ∷ [])) h ∙ sym (insert_all_append E (f ∷ []) [])

-- a set that has too many clauses has them with one more
pub more_full : (E : List (List ℕ)) (f : List ℕ) → most_rows < length (insert_all E []) → most_rows < length (insert_all (E ++ (f ∷ [])) [])
more_full E f h =
    rw (insert_all_append E (f ∷ []) []) (let k = rows_longer (f ∷ []) (insert_all E []) in omega arith)

-- ---- a row written after k others
pub stored_room : (k : ℕ) (w : List ℕ) → k < most_stored → length w ≡ width * most_stored → width * k + width ≤ length w
unfolding width
stored_room k w h e = omega arith

module _ (row old new : List ℕ) (k end : ℕ) (r : ClauseRow row) (room : width * k + width ≤ length old) (w : Wrote old (width * k) row new end) where
  long : length (take (width * k) old) ≡ width * k
  long = length-take-le (width * k) old (omega arith)

  front : take (width * (k + 1)) new ≡ take (width * k) old ++ row
  front =
      ap (take (width * (k + 1))) (wrote_between (let e = r.wide in omega arith) w)
      ∙ take_at (take (width * k) old ++ row) (drop (width * k + length row) old) (width * (k + 1)) size
    where
      size : length (take (width * k) old ++ row) ≡ width * (k + 1)
      size = let a = length-append (take (width * k) old) row in let b = long in let e = r.wide in let m = mul-suc width k in omega arith

  append_makes :
      (E : List (List ℕ)) → insert_all (clauses_of (take (width * k) old)) [] ≡ insert_all E []
      → insert_all (clauses_of (take (width * (k + 1)) new)) [] ≡ insert_all (E ++ (clause_of row ∷ [])) []
  append_makes E h =
      ap (λ z. insert_all (clauses_of z) []) front
      ∙ ap (λ z. insert_all z [])
      (clauses_append k (take (width * k) old) row long ∙ ap (λ z. clauses_of (take (width * k) old) ++ z) (one_clause row r.wide))
      ∙ makes_more (clauses_of (take (width * k) old)) E (clause_of row) h

  pub appended : k < most_stored → Rows old k → Stores row old (Some k) new (Some (k + 1))
  appended h o =
      record {
        fit =
            record {
              inside = omega arith;
              right = subst Sortable (sym front) (sortable_append (take (width * k) old) row o.right r.wide r.right);
            };
        makes = append_makes;
      }

-- ---- rows that were sorted
module _ (old new : List ℕ) (k : ℕ) (s : Sorted old new k) where
  sorted_count : k ≡ length (insert_all (clauses_of old) [])
  sorted_count =
      sym (rows_of (take (width * k) new) k (length-take-le (width * k) new s.inside))
      ∙ sym (clauses_length (take (width * k) new))
      ∙ ap length s.clauses

  pub sorted_many : most_rows < k → most_rows < length (insert_all (clauses_of old) [])
  sorted_many h = let e = sorted_count in omega arith

  pub sorted_rows : length old ≡ width * most_stored → Rows new k
  unfolding width
  sorted_rows h =
      record {
        inside = let i = s.inside in let e = s.size in omega arith;
        right = record { whole = s.right.ascending.whole; right = s.right.right };
      }

  pub sorted_makes : insert_all (clauses_of (take (width * k) new)) [] ≡ insert_all (clauses_of old) []
  unfolding up
  sorted_makes = ap (λ z. insert_all z []) s.clauses ∙ merge_none (insert_all (clauses_of old) []) (insert_all_up (clauses_of old) [] refl)

  -- the set's rows come first, whatever stands behind the rows that were sorted
  pub sorted_set :
      (rest : List ℕ) → k ≤ most_rows → (E : List (List ℕ)) → insert_all (clauses_of old) [] ≡ insert_all E []
      → Set (insert_all E []) (new ++ rest) k
  sorted_set rest h E e =
      record {
        few = h;
        count = sorted_count ∙ ap length e;
        words =
            take-append-le (width * k) new rest s.inside
            ∙ sym (words_back most_atoms (take (width * k) new) s.right)
            ∙ ap clause_words (s.clauses ∙ e);
      }

-- ---- a row stored where the buffer was full, or too many rows were stored
module _ (row old mid : List ℕ) (k n : ℕ) (s : Sorted (take (width * n) old) mid k) where
  pub stored_full : (new : List ℕ) → most_rows < k → Stores row old (Some n) new None
  stored_full new h =
      record {
        fit = tt;
        makes = λ E e. more_full E (clause_of row) (subst (λ (z : List (List ℕ)). most_rows < length z) e many);
      }
    where
      many : most_rows < length (insert_all (clauses_of (take (width * n) old)) [])
      many = sorted_many (take (width * n) old) mid k s h

  pub stored_sorted :
      (new : List ℕ) (r : Option ℕ) → Stores row mid (Some k) new r → Stores row old (Some n) new r
  stored_sorted new r x = record { fit = x.fit; makes = λ E e. x.makes E (sorted_makes (take (width * n) old) mid k s ∙ e) }

-- so many rows are stored
pub stored_rows : {w : List ℕ} {stored : Option ℕ} {k : ℕ} → stored ≡ Some k → Fit w stored → Rows w k
stored_rows {w = w} e f = subst (λ (z : Option ℕ). Fit w z) e f

-- their words lie in the buffer
pub stored_inside : {w : List ℕ} {k : ℕ} → Rows w k → length w ≡ width * most_stored → width * k ≤ length w
unfolding width
stored_inside r e = let h = r.inside in omega arith

pub stores_by : {row old new : List ℕ} {a b r : Option ℕ} → a ≡ b → Stores row old a new r → Stores row old b new r
stores_by {row = row} {old = old} {new = new} {r = r} e x = subst (λ (z : Option ℕ). Stores row old z new r) e x

pub stays_full : (row old new : List ℕ) → Stores row old None new None
stays_full row old new = record { fit = tt; makes = λ E h. more_full E (clause_of row) h }

-- ---- all rows stored, then sorted
module _ (old last : List ℕ) (k n : ℕ) (s : Sorted (take (width * n) old) last k) where
  pub comes_kept : (rest : List ℕ) (E : List (List ℕ)) → Makes old (Some n) E → Comes (insert_all E []) (last ++ rest) (then_some (leb k most_rows) k)
  comes_kept rest E e = go (leb k most_rows) refl
    where
      go : (b : Bool) → leb k most_rows ≡ b → Comes (insert_all E []) (last ++ rest) (then_some b k)
      go true h = sorted_set (take (width * n) old) last k s rest (leb-true k most_rows h) E e
      go false h =
          subst (λ (z : List (List ℕ)). most_rows < length z) e (sorted_many (take (width * n) old) last k s (leb-false k most_rows h))
