-- The answers of `write`: a refusal of questions 1 to 9, question 26, the text. Assumes nothing.
use mathlib.Core.Path.{◌≡◌, sym, ap}
use mathlib.Core.List.{List}
use Prim.Native.Nat.{ℕ, ◌≤◌}
use lib.Dec.{leb}
use lib.ListN.{length}
use Rattle.definitions.specs.Answer.{Refusal, finding, refused, outcome, verdict, ask, ◌>>=◌}
use Rattle.definitions.specs.Groups.{written}
use Rattle.definitions.specs.Dimacs.{dimacs_text, write_dimacs}
use Rattle.answer.proofs.Laws.{written_left}
use Rattle.task.specs.Reads.{task_of}
use Rattle.clause.specs.Rows.{clauses_of}
use Rattle.writing.specs.Writing.{Wrote}
use Rattle.writing.proofs.Target.{fits_done}
use Rattle.reading.specs.Reading.{read_both, BothRead}
use Rattle.reading.proofs.Questions.{both_refused}
use Rattle.dimacs.specs.Write.{text_answer}

module _ (w c old : List ℕ) where
  pub write_both : (r : Refusal) → refused r ≡ verdict (read_both w c) → outcome (refused r) old ≡ written old (write_dimacs w c (length old))
  unfolding write_dimacs written ◌>>=◌
  write_both r h = sym (ap (written old) (both_refused w c _ r h))

  pub write_rest :
      BothRead w c → (atoms : ℕ) → atoms ≡ (task_of w).atoms
      → written old (text_answer atoms (clauses_of c) (length old)) ≡ written old (write_dimacs w c (length old))
  unfolding write_dimacs text_answer ◌>>=◌
  write_rest both atoms counted = rw (both.task.found, counted, both.clauses.read)

module _ (N : ℕ) (C : List (List ℕ)) (old : List ℕ) (n : ℕ) (size : n ≡ length (dimacs_text N C)) where
  pub text_not : (r : Refusal) → refused r ≡ ask 26 (leb n (length old)) → outcome (refused r) old ≡ written old (text_answer N C (length old))
  unfolding text_answer
  text_not r e = written_left (ask 26 (leb (length (dimacs_text N C)) (length old))) _ old r (rw size at e)

  pub text_done :
      n ≤ length old → {new : List ℕ} {end : ℕ} → Wrote old 0 (dimacs_text N C) new end
      → outcome (finding n) new ≡ written old (text_answer N C (length old))
  unfolding text_answer
  text_done h w = rw size (fits_done 26 (length (dimacs_text N C)) (dimacs_text N C) old (rw size at h) w)
