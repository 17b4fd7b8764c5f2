-- One row of the operator against all judged clauses: passed over, contradictory, or judged. Assumes nothing.
use mathlib.Core.Path.{◌≡◌, sym, ◌∙◌, ap}
use mathlib.Core.Bool.{true, false}
use mathlib.Core.Logic.{◌⊎◌, inl, inr}
use mathlib.Core.List.{List, [], ◌∷◌, ◌++◌, Memᴰ}
use Prim.Native.Nat.{ℕ, ◌*◌, ◌<◌}
use lib.ListN.{length, replicate}
use Rattle.definitions.specs.Lists.{any, member}
use Rattle.definitions.specs.Literal.{complement, all_below}
use Rattle.definitions.specs.Clauses.{clause_of, row_at}
use Rattle.definitions.specs.Image.{Row, Operator}
use Rattle.definitions.specs.Closure.{closure, contradictory}
use Rattle.definitions.proofs.ListLaws.{decide, never, any_in}
use Rattle.definitions.proofs.LiteralLaws.{list_low}
use Rattle.clause.specs.Rows.{row_count, clauses_of}
use Rattle.clause.proofs.RowLaws.{clause_of_lem, clauses_length}
use Rattle.definitions.proofs.RowsRead.{right_list}
use Rattle.judge.specs.Judging.{guaranteed_flags, lacks_flag, violates, some_violates, fail_flags, flag_more}
use Rattle.judge.specs.Promise.{Judged}
use Rattle.judge.proofs.Violations.{violates_none, violates_passed, violates_lacking}
use Rattle.judge.proofs.Flagged.{flag_agree, flag_none, rows_on, rows_end, rows_fail, contradictory_fail}

-- the judged clauses' literals
pub judged_low : (atoms : ℕ) (ws : List ℕ) → Judged atoms ws → (f : List ℕ) → Memᴰ f (clauses_of ws) → all_below (2 * atoms) f ≡ true
judged_low atoms ws judged f m =
    let p = clause_of_lem ws f m in
    rw p.same (list_low atoms (clause_of (row_at ws p.row)) (right_list atoms (row_at ws p.row) (judged.right p.row p.inside)))

-- one row against the judged clauses
module _ (N : ℕ) (C : List (List ℕ)) (o : Operator) (D : List (List ℕ)) (e : ℕ) (cs s : List ℕ) where
  r : Row
  r = record { effect = e; conditions = cs }

  -- K is contradictory
  pub row_contradictory :
      contradictory N (closure N C (o.precondition ++ cs)) ≡ true → s ≡ flag_more (violates N C o (record { effect = e; conditions = cs })) D s
  unfolding r
  row_contradictory h = sym (flag_none (violates N C o r) D s (λ f m. violates_none N C o r f h))

  -- the clauses are judged by the guaranteed literals, where the row is one of the operator's and clauses and conditions are over the N atoms
  pub row_judged :
      ((f : List ℕ) → Memᴰ f C → (m : ℕ) → Memᴰ m f → m < 2 * N) → all_below (2 * N) cs ≡ true
      → ((f : List ℕ) → Memᴰ f D → all_below (2 * N) f ≡ true) → contradictory N (closure N C (o.precondition ++ cs)) ≡ false
      → (l : ℕ) (s' : List ℕ) → l ≡ complement e → Memᴰ (record { effect = e; conditions = cs }) o.rows
      → s' ≡ flag_more (lacks_flag l (guaranteed_flags N C o (o.precondition ++ cs))) D s
      → s' ≡ flag_more (violates N C o (record { effect = e; conditions = cs })) D s
  unfolding r
  row_judged within low-cs low closed l s' el there h =
      h
      ∙ rw el
      (sym
      (flag_agree (violates N C o r) (lacks_flag (complement e) (guaranteed_flags N C o (o.precondition ++ cs))) D s
      (λ f m. violates_lacking N C o within r there low-cs closed f (low f m))))

  -- the walk over the rows
  module _ (rs rs' : List Row) (next : rs ≡ record { effect = e; conditions = cs } ∷ rs') where
    pub walk_on :
        (s' : List ℕ) → s' ≡ flag_more (violates N C o (record { effect = e; conditions = cs })) D s
        → flag_more (some_violates N C o rs) D s ≡ flag_more (some_violates N C o rs') D s'
    unfolding r
    walk_on s' h = ap (λ x. flag_more (some_violates N C o x) D s) next ∙ rows_on N C o D r rs' s ∙ ap (flag_more (some_violates N C o rs') D) (sym h)

    -- no judged clause holds the complement of the effect
    pub walk_passed :
        (l : ℕ) → l ≡ complement e → any (member l) D ≡ false
        → flag_more (some_violates N C o rs) D s ≡ flag_more (some_violates N C o rs') D s
    unfolding r
    walk_passed l el h = walk_on s (sym (flag_none (violates N C o r) D s (λ f m. violates_passed N C o r f (rw el at (not_held f m (decide (member l f)))))))
      where
        not_held : (f : List ℕ) → Memᴰ f D → (member l f ≡ true) ⊎ (member l f ≡ false) → member l f ≡ false
        not_held f m (inl x) = never (any_in (member l) m x) h
        not_held f m (inr x) = x

pub walk_start :
    (N : ℕ) (C : List (List ℕ)) (o : Operator) (D : List (List ℕ)) (rs rs' : List Row) (s : List ℕ) → rs ≡ rs'
    → flag_more (some_violates N C o rs') D s ≡ flag_more (some_violates N C o rs) D s
walk_start N C o D rs rs' s h = rw h

pub walk_end :
    (N : ℕ) (C : List (List ℕ)) (o : Operator) (D : List (List ℕ)) (rs : List Row) (s : List ℕ) → rs ≡ []
    → flag_more (some_violates N C o rs) D s ≡ s
walk_end N C o D rs s h = rw h (rows_end N C o D s)

-- from flags that are all taken away
module _
    (N : ℕ) (C : List (List ℕ)) (o : Operator) (ws pre z s : List ℕ) (len : length z ≡ row_count ws) (zeros : s ≡ replicate (length z) 0)
    (start : pre ≡ o.precondition) where
  zeros_for : s ≡ replicate (length (clauses_of ws)) 0
  zeros_for = zeros ∙ ap (λ k. replicate k 0) (len ∙ sym (clauses_length ws))

  -- the closure of the precondition is contradictory
  pub fail_none : contradictory N (closure N C pre) ≡ true → s ≡ fail_flags N C o (clauses_of ws)
  fail_none h = zeros_for ∙ contradictory_fail N C o (clauses_of ws) (rw start at h)

  -- the rows are judged
  pub fail_rows :
      (s' : List ℕ) → contradictory N (closure N C pre) ≡ false → s' ≡ flag_more (some_violates N C o o.rows) (clauses_of ws) s
      → s' ≡ fail_flags N C o (clauses_of ws)
  fail_rows s' h e = e ∙ ap (flag_more (some_violates N C o o.rows) (clauses_of ws)) zeros_for ∙ rows_fail N C o (clauses_of ws) (rw start at h)
