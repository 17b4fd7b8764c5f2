-- The questions of the closure call one after the other, and what it shows. Assumes nothing.
use mathlib.Core.Path.{◌≡◌, sym, ◌∙◌, ap, ap₂}
use mathlib.Core.Bool.{true}
use mathlib.Core.List.{List, ◌++◌}
use Prim.Native.Nat.{ℕ, ◌≤◌}
use lib.Dec.{ltb, leb}
use lib.ListN.{length, drop}
use Rattle.definitions.specs.Answer.{Refusal, finding, refused, verdict, outcome, ◌>>=◌, ask}
use Rattle.definitions.specs.Literal.{most_atoms}
use Rattle.definitions.specs.Image.{Operator, operator_right}
use Rattle.definitions.specs.Step.{operator_at}
use Rattle.definitions.specs.Closure.{closure}
use Rattle.definitions.specs.Marks.{mark_bytes, marks_of, marked_literals}
use Rattle.definitions.specs.Groups.{written}
use Rattle.definitions.specs.ClosureCall.{operator_closure, shown, closure_call}
use Rattle.definitions.proofs.MarkBits.{new_marks, marks_length, new_literals, front_literals}
use Rattle.definitions.proofs.ReadLaws.{pre_low}
use Rattle.clause.specs.Rows.{clauses_of}
use Rattle.task.specs.Reads.{task_of}
use Rattle.task.specs.Walk.{operator_in}
use Rattle.task.specs.Post.{BlockGiven}
use Rattle.task.proofs.Questions.{operator_right_lem}
use Rattle.propagation.specs.Marks.{Asked}
use Rattle.reading.specs.Reading.{read_both, BothRead}
use Rattle.reading.proofs.Questions.{both_refused}
use Rattle.closure.specs.Asked.{Asks}

module _ (w c : List ℕ) (i : ℕ) (ms : List ℕ) where
  pub call_read : (r : Refusal) → refused r ≡ verdict (read_both w c) → refused r ≡ closure_call w c i ms
  unfolding closure_call ◌>>=◌
  call_read r h = sym (both_refused w c _ r h)

  -- after questions 1 to 9: 19, then 13
  pub call_asks :
      BothRead w c
      → (ask 19 (ltb i (length (task_of w).operators)) >>= λ _. ask 13 (leb (mark_bytes (task_of w).atoms) (length ms))
      >>= λ _. finding (shown (task_of w) (clauses_of c) i ms)) ≡ closure_call w c i ms
  unfolding closure_call ◌>>=◌
  call_asks read = rw (read.task.found, read.clauses.read)

-- ---- what is shown for operator i, whose block is b
module _ (w c : List ℕ) (i : ℕ) (ms : List ℕ) (a : Asks w c i (length ms)) (atoms : ℕ) (counted : atoms ≡ (task_of w).atoms) (b : List ℕ)
    (block : BlockGiven b (task_of w) i) (p : List ℕ) (read : p ≡ (operator_in b).precondition) where
  precondition : p ≡ (operator_at (task_of w) i).precondition
  precondition = read ∙ ap (λ (o : Operator). o.precondition) block.operator

  -- what propagation asks
  pub close_asked : atoms ≤ most_atoms → Asked atoms c p ms
  close_asked few =
      record {
        few = few;
        room = rw counted a.marked;
        rows = rw counted a.clauses;
        below = rw read (pre_low atoms (operator_in b) right);
      }
    where
      right : operator_right atoms (operator_in b) ≡ true
      right = rw (counted, block.operator) (operator_right_lem w a.task i a.operator)

  closed : closure atoms (clauses_of c) p ≡ operator_closure (task_of w) (clauses_of c) i
  unfolding operator_closure
  closed = ap₂ (λ (n : ℕ) (ls : List ℕ). closure n (clauses_of c) ls) counted precondition

  -- the marks and the number
  pub show_done :
      (new : List ℕ) (number : ℕ)
      → new ≡ marks_of atoms (closure atoms (clauses_of c) p) ms ++ drop (mark_bytes atoms) ms
      → number ≡ length (marked_literals atoms new) → outcome (finding number) new ≡ written ms (finding (shown (task_of w) (clauses_of c) i ms))
  unfolding written shown new_marks
  show_done new number made count =
      ap₂ (λ (n : ℕ) (s : List ℕ). outcome (finding n) s) number_is (same ∙ ap (λ (n : ℕ). front ++ drop n ms) (sym size))
    where
      N : ℕ
      N = (task_of w).atoms

      K : List ℕ
      K = operator_closure (task_of w) (clauses_of c) i

      front : List ℕ
      front = marks_of (task_of w).atoms (operator_closure (task_of w) (clauses_of c) i) ms

      size : length front ≡ mark_bytes (task_of w).atoms
      size = marks_length N K ms

      same : new ≡ front ++ drop (mark_bytes (task_of w).atoms) ms
      same =
          made
          ∙ ap₂ (λ (n : ℕ) (S : List ℕ). marks_of n S ms ++ drop (mark_bytes n) ms) counted closed

      number_is : number ≡ length (marked_literals (task_of w).atoms front)
      number_is =
          count ∙ ap₂ (λ (n : ℕ) (s : List ℕ). length (marked_literals n s)) counted same
          ∙ ap length (new_literals N K ms ∙ sym (front_literals N K ms))
