-- The questions of a synthesis one after the other. Assumes nothing.
use mathlib.Core.Bool.{true, false, ◌&&◌}
use mathlib.Core.Path.{◌≡◌, sym, ◌∙◌, ap}
use mathlib.Core.List.{List, ◌++◌}
use Prim.Native.Nat.{ℕ, ◌-◌, ◌*◌, ◌≤◌, ◌<◌}
use native.Mathlib.Omega.{arith}
use native.Mathlib.Nat.{mul-le-mul_left}
use lib.Dec.{leb}
use lib.ListN.{length, take, drop, replicate}
use lib.Seq.{take_at}
use borrow.Author.Tests.{leb-true, le-leb, lt-leb}
use Rattle.definitions.specs.Answer.{Refusal, Answer, Outcome, refused, refuse, verdict, outcome, ask, ask_at, ◌>>=◌}
use Rattle.definitions.specs.Literal.{most_atoms}
use Rattle.definitions.specs.Image.{Task, read_task}
use Rattle.definitions.specs.Clauses.{width, most_rows, clause_words}
use Rattle.definitions.specs.Synthesis.{first_set, Found, Made, fits, rounds, rows_in, synthesis, buffer_after, made_of, synthesis_call}
use Rattle.definitions.specs.Marks.{mark_bytes}
use Rattle.definitions.proofs.ListLaws.{and_left, and_right}
use Rattle.definitions.proofs.AnswerLaws.{same_refusal_lem}
use Rattle.definitions.proofs.QuestionNumbers.{task_numbers}
use Rattle.definitions.proofs.RoundLaws.{EndOfRounds, found, out_of_rounds, out_of_rows, end_from_first}
use Rattle.std.specs.Result.{IsErrAnd}
use Rattle.std.proofs.Common.{Result}
use Rattle.answer.specs.Answer.{refusal_at, placed}
use Rattle.answer.specs.declared.Refusal as code
use Rattle.answer.proofs.Laws.{verdict_refused, left_as, asked_no, asked_refusal}
use Rattle.synthesis.specs.declared.Found as made
use Rattle.synthesis.specs.Answer.{synthesis_answer}
use Rattle.task.specs.Reads.{task_of, Reads}
use Rattle.synthesis.specs.Asked.{limits_right, buffers_right, Asked}
use Rattle.synthesis.specs.Rounds.{Begun}
use Rattle.synthesis.proofs.Rounds.{first_size}
use Rattle.synthesis.proofs.Units.{first_length}

-- ---- the clause buffer after the rounds is the same for buffers of one length
ended_buffer :
    {t : Task} {n rows last : ℕ} {a : Answer Found} (c c' : List ℕ) → length c ≡ length c' → EndOfRounds t n rows last a
    → buffer_after c a ≡ buffer_after c' a
unfolding refuse buffer_after
ended_buffer c c' e (found r f small) = rw e
ended_buffer c c' e (out_of_rounds h) = rw e
ended_buffer c c' e out_of_rows = rw e

refusal_of :
    (f q : Refusal) (old : List ℕ) (y : Outcome Made) → ◌≡◌ {A = Answer (Unit {0})} (refused f) (refused q)
    → outcome (refused q) old ≡ y → outcome (refused f) old ≡ y
refusal_of f q old y e h = ap (λ (x : Refusal). outcome (refused x) old) (same_refusal_lem f q e) ∙ h

-- ---- the questions before the first set
module _ (w : List ℕ) (n limit : ℕ) (old : List ℕ) (work marks : ℕ) where
  pub call_read : (r : Refusal) → refused r ≡ verdict (read_task w) → outcome (refused r) old ≡ synthesis_call w n limit old work marks
  unfolding synthesis_call synthesis ◌>>=◌ made_of buffer_after outcome
  call_read r h =
      let e = verdict_refused (read_task w) r (sym h) in
      rw (e, lt-leb 14 r.number (let l = task_numbers w r e in omega arith))

  module _ (reads : Reads w) where
    limits_no : limits_right n limit ≡ false → outcome (refused (refusal_at 12 0 0)) old ≡ synthesis_call w n limit old work marks
    unfolding synthesis_call synthesis ◌>>=◌ ask ask_at made_of buffer_after outcome
    limits_no h = rw (reads.found, h)

    buffers_no :
        limits_right n limit ≡ true → buffers_right (task_of w).atoms (length old) work marks ≡ false
        → outcome (refused (refusal_at 13 0 0)) old ≡ synthesis_call w n limit old work marks
    unfolding synthesis_call synthesis ◌>>=◌ ask ask_at made_of buffer_after outcome
    buffers_no limits h = rw (reads.found, limits, h)

    -- a refusal of one of them is the call's, and leaves the clause buffer as it was
    pub call_limits : (r : Refusal) → refused r ≡ ask 12 (limits_right n limit) → outcome (refused r) old ≡ synthesis_call w n limit old work marks
    unfolding ask
    call_limits r h =
        let no = asked_no 12 0 (limits_right n limit) r h in
        refusal_of r (refusal_at 12 0 0) old _ (h ∙ asked_refusal 12 0 (limits_right n limit) no) (limits_no no)

    pub call_buffers :
        limits_right n limit ≡ true → (r : Refusal) → refused r ≡ ask 13 (buffers_right (task_of w).atoms (length old) work marks)
        → outcome (refused r) old ≡ synthesis_call w n limit old work marks
    unfolding ask
    call_buffers limits r h =
        let right = buffers_right (task_of w).atoms (length old) work marks in
        let no = asked_no 13 0 right r h in
        refusal_of r (refusal_at 13 0 0) old _ (h ∙ asked_refusal 13 0 right no) (buffers_no limits no)

-- the exit of a `?`
pub left_call :
    (r : Result made.Found code.Refusal) (f : code.Refusal) (old : List ℕ) (x : Outcome Made)
    → IsErrAnd r (λ g. g ≡ f) → outcome (refused (placed f)) old ≡ x → outcome (synthesis_answer r) old ≡ x
left_call r f old x left e = left_as (λ v. outcome (synthesis_answer v) old ≡ x) r f left e

-- ---- the call after these questions
module _ (w : List ℕ) (n limit : ℕ) (old : List ℕ) (work marks : ℕ) (asked : Asked w n limit (length old) work marks) where
  abbrev t : Task
  t = task_of w

  module _ (atoms : ℕ) (counted : atoms ≡ t.atoms) (rows : ℕ) (same : rows ≡ rows_in (length old)) where
    pub call_rows : rows < atoms → outcome (refused (refusal_at 14 0 0)) (replicate (length old) 0) ≡ synthesis_call w n limit old work marks
    unfolding synthesis_call synthesis fits ◌>>=◌ ask ask_at made_of buffer_after outcome
    call_rows h =
        let size = first_size t in
        rw (asked.task.found, asked.limits, asked.buffers, ← same, lt-leb (length (first_set t)) rows (omega arith))

    module _ (inside : atoms ≤ rows) where
      pub call_run :
          (c : List ℕ) → length c ≡ length old
          → outcome (made_of (rounds t n rows 1 (limit - 1) (first_set t))) (buffer_after c (rounds t n rows 1 (limit - 1) (first_set t)))
          ≡ synthesis_call w n limit old work marks
      unfolding synthesis_call synthesis fits ◌>>=◌ ask ask_at
      call_run c q =
          let size = first_size t in
          let small = le-leb (length (first_set t)) rows (omega arith) in
          ap (outcome (made_of (rounds t n rows 1 (limit - 1) (first_set t)))) (ended_buffer c old q (end_from_first t n rows (limit - 1) small))
          ∙ rw (asked.task.found, asked.limits, asked.buffers, ← same, small)

      few : rows ≤ most_rows
      unfolding rows_in
      few = let h = same in omega arith

      room : width * rows ≤ length old
      unfolding rows_in width
      room = let h = same in omega arith

      first_room : width * atoms ≤ length old
      first_room =
          let h = mul-le-mul_left width inside in
          let k = room in
          omega arith

      pub call_room : width * t.atoms ≤ length old
      call_room = rw (← counted) first_room

      -- the numbers of literals and of rounds
      literals : (leb 1 n && leb n width) ≡ true
      literals = and_left (leb 1 n && leb n width) (leb 1 limit) (and_left (leb 1 n && leb n width && leb 1 limit) (leb limit 65535) asked.limits)

      some_round : 1 ≤ limit
      some_round =
          leb-true 1 limit
          (and_right (leb 1 n && leb n width) (leb 1 limit) (and_left (leb 1 n && leb n width && leb 1 limit) (leb limit 65535) asked.limits))

      -- what is asked of the rounds
      pub call_begun :
          atoms ≤ most_atoms → (v c : List ℕ) → length v ≡ work → length c ≡ length old
          → c ≡ clause_words (first_set t) ++ drop (width * t.atoms) old → Begun w c v atoms n limit rows marks
      call_begun few_atoms v c vl cl e =
          let words : length (clause_words (first_set t)) ≡ width * atoms = first_length t ∙ ap (λ (k : ℕ). width * k) (sym counted) in
          record {
            task = asked.task;
            counted = counted;
            few = few_atoms;
            some_literal = leb-true 1 n (and_left (leb 1 n) (leb n width) literals);
            narrow = leb-true n width (and_right (leb 1 n) (leb n width) literals);
            some_round = some_round;
            size = inside;
            few_rows = few;
            room = (let h = room in omega arith);
            work = (let h = leb-true (length old) work (and_right (leb (mark_bytes t.atoms) marks) (leb (length old) work) asked.buffers) in omega arith);
            marked =
                (let h = leb-true (mark_bytes t.atoms) marks (and_left (leb (mark_bytes t.atoms) marks) (leb (length old) work) asked.buffers) in
                omega (arith, ap mark_bytes counted));
            words = ap (take (width * atoms)) e ∙ take_at (clause_words (first_set t)) (drop (width * t.atoms) old) (width * atoms) words;
          }

-- equal numbers, the same call
pub call_by :
    (w : List ℕ) (n n' limit limit' : ℕ) (old : List ℕ) (work marks : ℕ) → n ≡ n' → limit ≡ limit'
    → synthesis_call w n limit old work marks ≡ synthesis_call w n' limit' old work marks
call_by w n n' limit limit' old work marks e f = rw (e, f)
