-- The questions of the test of one clause under one operator, and what is given once they are answered yes. Assumes nothing.
use mathlib.Core.Bool.{Bool, true, false, not}
use mathlib.Core.Path.{◌≡◌, refl, sym, ◌∙◌, ap, subst}
use mathlib.Core.List.{List, [], ◌∷◌}
use Prim.Native.Nat.{ℕ, ◌≤◌, ◌<◌}
use native.Mathlib.Nat.{mul-zero}
use native.Mathlib.Omega.{arith}
use lib.ListN.{length}
use lib.Seq.{take_all}
use lib.Dec.{ltb, leb}
use borrow.Author.Tests.{lt-ltb, le-leb}
use Rattle.definitions.specs.Lists.{range}
use Rattle.definitions.specs.Answer.{Refusal, finding, refused, verdict, ask, ask_at, ◌>>=◌}
use Rattle.definitions.specs.Image.{Operator, operator_right}
use Rattle.definitions.specs.Step.{operator_at}
use Rattle.definitions.specs.Clauses.{width, clause_of, clause_right, row_at, read_clause}
use Rattle.definitions.specs.Closure.{has}
use Rattle.definitions.specs.Kept.{kept}
use Rattle.definitions.specs.Checker.{keeps}
use Rattle.definitions.specs.Literal.{most_atoms}
use Rattle.definitions.specs.Marks.{mark_bytes}
use Rattle.clause.specs.Rows.{row_count, clauses_in, clauses_of, ClausesRead, ClauseRead}
use Rattle.clause.proofs.WordLaws.{clause_fine}
use Rattle.task.specs.Reads.{task_of, Reads}
use Rattle.task.specs.Post.{BlockGiven}
use Rattle.task.proofs.Questions.{operator_right_lem}
use Rattle.reading.specs.Reading.{read_both, BothRead}
use Rattle.reading.proofs.Questions.{both_refused}
use Rattle.judge.specs.Judging.{fail_flags}
use Rattle.judge.specs.Promise.{Given, Judged, BulkGiven, Asks}
use Rattle.propagation.proofs.MarkedSets.{bit_back}
use Rattle.answer.proofs.Laws.{verdict_refused}

-- what judging asks, of an operator of a task
pub given_operator :
    (w c b : List ℕ) (atoms i : ℕ) → Reads w → atoms ≡ (task_of w).atoms → atoms ≤ most_atoms → i < length (task_of w).operators
    → ClausesRead atoms c → BlockGiven b (task_of w) i → Given atoms c b
given_operator w c b atoms i task counted few inside rows block =
    record {
      few = few;
      rows = rows;
      parses = block.parses;
      right =
          ap (operator_right atoms) block.operator
          ∙ ap (λ N. operator_right N (operator_at (task_of w) i)) counted
          ∙ operator_right_lem w task i inside;
    }

-- ---- one row
module _ (atoms : ℕ) (f : List ℕ) (row : ClauseRead atoms f) where
  one_row : row_count f ≡ 1
  unfolding row_count width
  one_row = rw row.wide

  row_itself : (i : ℕ) → i < row_count f → row_at f i ≡ f
  unfolding row_at
  row_itself i h =
      let z : i ≡ 0 = let k = one_row in omega arith in
      rw (z, mul-zero width) (take_all width f (omega (arith, row.wide)))

  one_clause : clauses_of f ≡ clause_of f ∷ []
  unfolding clauses_of clauses_in range
  one_clause = rw one_row (ap (λ r. clause_of r ∷ []) (row_itself 0 (let k = one_row in omega arith)))

  pub one_judged : Judged atoms f
  one_judged = record { right = λ i h. ap (clause_right atoms) (row_itself i h) ∙ row.right }

  pub one_flag : (k : ℕ) → k ≡ 1 → k ≡ row_count f
  one_flag k h = h ∙ sym one_row

  -- its flag
  pub one_fails :
      (C : List (List ℕ)) (o o' : Operator) (s : List ℕ) → o ≡ o' → s ≡ fail_flags atoms C o (clauses_of f)
      → has s 0 ≡ not (kept atoms C o' (clause_of f))
  unfolding fail_flags has
  one_fails C o o' s eo e = rw (e, one_clause, eo) (bit_back (not (kept atoms C o' (clause_of f))))

-- ---- the questions, one after the other
pub clause_read :
    (N atoms : ℕ) (f : List ℕ) (u : Unit {0}) → atoms ≡ N → finding u ≡ verdict (read_clause atoms f) → ClauseRead N f
clause_read N atoms f u counted e = clause_fine N f u (sym (rw counted at e))

module _ (w c f : List ℕ) (i marks : ℕ) where
  pub read_refused : (r : Refusal) → refused r ≡ verdict (read_both w c) → refused r ≡ keeps w c f i marks
  unfolding keeps ◌>>=◌
  read_refused r h = sym (both_refused w c _ r h)

  module _ (both : BothRead w c) where
    pub clause_refused : (r : Refusal) → refused r ≡ verdict (read_clause (task_of w).atoms f) → refused r ≡ keeps w c f i marks
    unfolding keeps ◌>>=◌
    clause_refused r h = rw (both.task.found, both.clauses.read, verdict_refused (read_clause (task_of w).atoms f) r (sym h))

    -- after questions 1 to 9: 19, then 13
    pub keeps_asks :
        ClauseRead (task_of w).atoms f
        → (ask 19 (ltb i (length (task_of w).operators)) >>= λ _. ask 13 (leb (mark_bytes (task_of w).atoms) marks)
        >>= λ _. finding (kept (task_of w).atoms (clauses_of c) (operator_at (task_of w) i) (clause_of f))) ≡ keeps w c f i marks
    unfolding keeps ◌>>=◌
    keeps_asks clause = rw (both.task.found, both.clauses.read, clause.read)

  pub keeps_found :
      Asks w c f i marks
      → finding (kept (task_of w).atoms (clauses_of c) (operator_at (task_of w) i) (clause_of f)) ≡ keeps w c f i marks
  unfolding keeps ◌>>=◌ ask ask_at
  keeps_found a =
      rw (
        a.task.found,
        a.clauses.read,
        a.clause.read,
        lt-ltb i (length (task_of w).operators) a.operator,
        le-leb (mark_bytes (task_of w).atoms) marks a.marked,
      )

-- ---- the test of one clause under operator i
not_twice : (b : Bool) → not (not b) ≡ b
not_twice true = refl
not_twice false = refl

module _ (w c f : List ℕ) (i : ℕ) (ms : List ℕ) (a : Asks w c f i (length ms)) (atoms : ℕ) (counted : atoms ≡ (task_of w).atoms) where
  -- what judging the one row asks
  pub asks_bulk : atoms ≤ most_atoms → (b fails : List ℕ) → BlockGiven b (task_of w) i → length fails ≡ 1 → BulkGiven atoms c f b ms fails
  asks_bulk few b fails block one =
      subst (λ (k : ℕ). BulkGiven k c f b ms fails) (sym counted)
      record {
        given = given_operator w c b (task_of w).atoms i a.task refl (omega arith) a.operator a.clauses block;
        judged = one_judged (task_of w).atoms f a.clause;
        room = a.marked;
        flagged = one_flag (task_of w).atoms f a.clause (length fails) one;
      }

  -- the answer, by the clause's flag
  pub asks_answer :
      (o : Operator) (s : List ℕ) (b : Bool) → o ≡ operator_at (task_of w) i → s ≡ fail_flags atoms (clauses_of c) o (clauses_of f) → b ≡ has s 0
      → finding (not b) ≡ keeps w c f i (length ms)
  asks_answer o s b eo es eb =
      let e = subst (λ (k : ℕ). s ≡ fail_flags k (clauses_of c) o (clauses_of f)) counted es in
      let fails = one_fails (task_of w).atoms f a.clause (clauses_of c) o (operator_at (task_of w) i) s eo e in
      ap (λ (x : Bool). finding (not x)) (eb ∙ fails)
      ∙ ap finding (not_twice (kept (task_of w).atoms (clauses_of c) (operator_at (task_of w) i) (clause_of f)))
      ∙ keeps_found w c f i (length ms) a
