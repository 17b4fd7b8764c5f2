-- A clause with one literal more put in. Assumes nothing.
use mathlib.Core.Bool.{true, false}
use mathlib.Core.Option.{Option}
use mathlib.Core.Path.{◌≡◌}
use mathlib.Core.List.{List, [], ◌++◌, map}
use Prim.Native.Nat.{ℕ, suc, ◌+◌, ◌≤◌, ◌<◌}
use native.Mathlib.Numerals.{add-one}
use native.Mathlib.Omega.{arith}
use lib.ListN.{length, get_or, drop, drop_of_length-le}
use borrow.Author.Tests.{lt-ltb}
use Rattle.definitions.specs.Lists.{each, range, member}
use Rattle.definitions.specs.Literal.{most_atoms, most_literals, atom}
use Rattle.definitions.specs.Clauses.{width, row_of, clause_of}
use Rattle.definitions.specs.Synthesis.{insert_literal}
use Rattle.definitions.proofs.Walks.{left_here}
use Rattle.definitions.specs.Clauses.{GoodClause}
use Rattle.definitions.proofs.SetRight.{good_insert}
use Rattle.definitions.proofs.Accepts.{row_length}
use Rattle.definitions.proofs.LiteralLaws.{list_low}
use Rattle.clause.proofs.ClauseLaws.{row_back, good_right}
use Rattle.clause_set.specs.Put.{put, put_all, extended}
use Rattle.clause_set.specs.Held.{ClauseRow, Extensible}

module _ (rows : ℕ) (f : List ℕ) (l : ℕ) (s : Option (List (List ℕ))) where
  pub extend_none : member (atom l) (map atom f) ≡ true → put_all rows (extended f l) s ≡ s
  unfolding extended put_all
  extend_none h = rw h

  pub extend_one : member (atom l) (map atom f) ≡ false → put_all rows (extended f l) s ≡ put rows (insert_literal l f) s
  unfolding extended put_all
  extend_one h = rw h

module _ (f : List ℕ) (l : ℕ) (e : Extensible f) (low : l < most_literals) (new : member (atom l) (map atom f) ≡ false) where
  good : GoodClause most_atoms width (insert_literal l f)
  good = good_insert most_atoms width l f e.good (lt-ltb (length f) width e.short) low new

  pub extend_row : ClauseRow (row_of (insert_literal l f))
  extend_row =
      record {
        wide = row_length (insert_literal l f) good.most;
        right = good_right most_atoms (insert_literal l f) (omega arith) good;
      }

  pub extend_back : clause_of (row_of (insert_literal l f)) ≡ insert_literal l f
  extend_back = row_back most_atoms (insert_literal l f) (omega arith) (list_low most_atoms (insert_literal l f) good.list)

-- ---- what a list of which the elements from i on are left gives
module _ {A B : Type 0} (g : B → List A) (xs : List B) (i : ℕ) where
  pub each_left : (d x : B) → x ≡ get_or xs i d → i < length xs → each g (drop i xs) ≡ g x ++ each g (drop (i + 1) xs)
  unfolding each
  each_left d x at h = rw (left_here xs i d x at h)

  pub each_done : length xs ≤ i → each g (drop i xs) ≡ []
  unfolding each
  each_done h = rw (drop_of_length-le xs {i = i} h)

-- the numbers from i on, k of them
module _ {A : Type 0} (g : ℕ → List A) (i k : ℕ) where
  pub range_left : (k' : ℕ) → k ≡ suc k' → each g (range i k) ≡ g i ++ each g (range (i + 1) k')
  unfolding each range
  range_left k' e = rw (e, add-one)

  pub range_done : k ≡ 0 → each g (range i k) ≡ []
  unfolding each range
  range_done e = rw e
