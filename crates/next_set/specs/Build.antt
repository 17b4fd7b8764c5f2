-- The next set as it is built: the survivors, then the weakened clauses by rising length. Assumes nothing.
use Rattle.std.specs.Prelude.{Bool, false, not, ◌&&◌, ◌||◌, cond, List, [], ℕ, zero, suc, eqb, length, get_or}
use Rattle.std.proofs.Math.Option.{Option, none, some}
use Rattle.definitions.specs.Lists.{any, all, keep, each, range}
use Rattle.definitions.specs.Image.{Operator, Task}
use Rattle.definitions.specs.Kept.{kept}
use Rattle.definitions.specs.Closure.{has}
use Rattle.definitions.specs.Step.{operator_at}
use Rattle.definitions.specs.Clauses.{row_at}
use Rattle.definitions.specs.Synthesis.{weakened_by, fits}
use Rattle.clause.specs.Rows.{row_count}
use Rattle.clause_set.specs.Put.{extended}

-- a set that fits into the rows
unfoldable pub fitted : ℕ → List (List ℕ) → Option (List (List ℕ))
fitted rows C = cond (fits rows C) (some C) none

module _ (t : Task) (C : List (List ℕ)) where
  -- the clauses of C that pass
  unfoldable pub survivors : List (List ℕ)
  survivors = keep (λ f. all (λ o. kept t.atoms C o f) t.operators) C

  -- the clause fails under one of the first j operators
  unfoldable pub fails_below : ℕ → List ℕ → Bool
  fails_below zero f = false
  fails_below (suc j) f = let r = fails_below j f in not (kept t.atoms C (operator_at t j) f) || r

  -- some clause of k literals fails under the operator
  unfoldable pub some_fails : ℕ → Operator → Bool
  some_fails k o = any (λ f. eqb (length f) k && not (kept t.atoms C o f)) C

  -- what an operator adds for a clause, if it has k literals and fails
  unfoldable pub added_for : ℕ → Operator → List ℕ → List (List ℕ)
  added_for k o f = cond (eqb (length f) k && not (kept t.atoms C o f)) (weakened_by t C f o) []

  -- what an operator adds for the clauses of k literals
  unfoldable pub added_by : ℕ → Operator → List (List ℕ)
  added_by k o = each (added_for k o) C

  -- what is added for the clauses of k literals
  unfoldable pub added_at : ℕ → List (List ℕ)
  added_at k = each (added_by k) t.operators

  -- what is added for the clauses of k literals and of the following, j numbers in all
  unfoldable pub added_from : ℕ → ℕ → List (List ℕ)
  added_from k j = each added_at (range k j)

-- row i of the clauses C is to be weakened: it has k literals and its flag
unfoldable pub is_due : List (List ℕ) → List ℕ → ℕ → ℕ → Bool
is_due C flags k i = eqb (length (get_or C i [])) k && has flags i

-- what is added for row i, if it is to be weakened: its clause with each literal of the list
unfoldable pub added_row : List (List ℕ) → List ℕ → List ℕ → ℕ → ℕ → List (List ℕ)
added_row C flags list k i = cond (is_due C flags k i) (each (extended (get_or C i [])) list) []

-- the words of the rows that have no flag
unfoldable pub rows_without : List ℕ → List ℕ → ℕ → List ℕ
rows_without w flags i = cond (has flags i) [] (row_at w i)

unfoldable pub words_without : List ℕ → List ℕ → List ℕ
words_without w flags = each (rows_without w flags) (range 0 (row_count w))
