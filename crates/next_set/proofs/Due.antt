-- The rows that are to be weakened, and what is added for them. Assumes nothing.
use mathlib.Core.Bool.{true, false, and-true, and-false}
use mathlib.Core.Option.{Option}
use mathlib.Core.Path.{◌≡◌, sym, ◌∙◌, ap}
use mathlib.Core.List.{List, []}
use Prim.Native.Nat.{ℕ, ◌<◌}
use native.Mathlib.Omega.{arith}
use lib.Dec.{eqb}
use lib.ListN.{length, get_or}
use borrow.Author.Tests.{eqb-true}
use Rattle.definitions.specs.Lists.{each}
use Rattle.definitions.specs.Closure.{has}
use Rattle.definitions.specs.Clauses.{clause_of, row_at}
use Rattle.definitions.proofs.ListLaws.{and_left}
use Rattle.clause.specs.Rows.{row_count, clauses_of}
use Rattle.clause.proofs.RowLaws.{clauses_at_lem, clause_in}
use Rattle.clause.proofs.ClauseLaws.{clause_good}
use Rattle.clause_set.specs.Put.{put_all, extended}
use Rattle.definitions.specs.Literal.{most_atoms}
use Rattle.clause_set.specs.Held.{Extensible}
use Rattle.next_set.specs.Build.{is_due, added_row}
use Rattle.next_set.specs.Post.{Weakening}
use Rattle.next_set.proofs.Flags.{has_one, has_not}

module _ (w flags : List ℕ) (k i : ℕ) (inside : i < row_count w) where
  pub due_unflagged : (get_or flags i 0 ≡ 1 → ⊥) → false ≡ is_due (clauses_of w) flags k i
  unfolding is_due
  due_unflagged h = sym (rw (has_not flags i h) (and-false (eqb (length (get_or (clauses_of w) i [])) k)))

  pub due_flagged : (row f : List ℕ) → row ≡ row_at w i → f ≡ clause_of row → get_or flags i 0 ≡ 1 → eqb (length f) k ≡ is_due (clauses_of w) flags k i
  unfolding is_due
  due_flagged row f r e h =
      let q : f ≡ get_or (clauses_of w) i [] = e ∙ ap clause_of r ∙ sym (clauses_at_lem w i inside) in
      ap (λ (g : List ℕ). eqb (length g) k) q ∙ sym (rw (has_one flags i h) (and-true (eqb (length (get_or (clauses_of w) i [])) k)))

-- ---- what is added for a row
module _ (rows : ℕ) (C : List (List ℕ)) (flags list : List ℕ) (k i : ℕ) (s : Option (List (List ℕ))) where
  pub row_none : is_due C flags k i ≡ false → put_all rows (added_row C flags list k i) s ≡ s
  unfolding added_row put_all
  row_none h = rw h

  pub row_some :
      is_due C flags k i ≡ true → (f : List ℕ) → f ≡ get_or C i [] → put_all rows (each (extended f) list) s ≡ put_all rows (added_row C flags list k i) s
  unfolding added_row
  row_some h f e = rw (h, e)

pub row_extensible :
    (w flags list f : List ℕ) (k i : ℕ) → Weakening w flags list k → i < row_count w → is_due (clauses_of w) flags k i ≡ true → f ≡ clause_of (row_at w i)
    → Extensible f
unfolding is_due
row_extensible w flags list f k i g h due e =
    let at = clauses_at_lem w i h in
    let n : length (get_or (clauses_of w) i []) ≡ k =
    eqb-true (length (get_or (clauses_of w) i [])) k (and_left (eqb (length (get_or (clauses_of w) i [])) k) (has flags i) due) in
    let m : length f ≡ k = ap length (e ∙ sym at) ∙ n in
    record {
      good = rw e (clause_good most_atoms w g.rows (clause_of (row_at w i)) (clause_in w i h));
      short = (let s = g.short in omega arith);
    }
