-- Questions 1 to 9, and what is asked after them. Assumes nothing.
use mathlib.Core.Path.{◌≡◌, sym, ap, subst}
use mathlib.Core.List.{List}
use Prim.Native.Nat.{ℕ}
use Rattle.std.proofs.Common.{Result, Ok, Err}
use Rattle.definitions.specs.Answer.{Refusal, Answer, finding, refused, verdict, ◌>>=◌}
use Rattle.definitions.specs.Image.{Task, read_task}
use Rattle.definitions.specs.Clauses.{read_clauses}
use Rattle.definitions.proofs.AnswerLaws.{not_finding, same_refusal_lem}
use Rattle.answer.specs.Answer.{verdict_answer}
use Rattle.answer.specs.declared.Refusal as code
use Rattle.answer.proofs.Laws.{verdict_refused}
use Rattle.task.specs.Reads.{task_of, Reads}
use Rattle.clause.specs.Rows.{ClausesRead}
use Rattle.clause.proofs.ReadLaws.{read_fine}
use Rattle.reading.specs.Reading.{read_both, BothAnswer}

module _ (w c : List ℕ) where
  pub both_task : (r : Refusal) → refused r ≡ verdict (read_task w) → refused r ≡ verdict (read_both w c)
  unfolding read_both ◌>>=◌ verdict
  both_task r h = rw (verdict_refused (read_task w) r (sym h))

  pub both_clauses :
      Reads w → (atoms : ℕ) → atoms ≡ (task_of w).atoms
      → (v : Result (Unit {0}) code.Refusal) → verdict_answer v ≡ verdict (read_clauses atoms c) → BothAnswer w c v
  unfolding read_both ◌>>=◌
  both_clauses task atoms counted (Ok u) e =
      record { task = task; clauses = subst (λ (k : ℕ). ClausesRead k c) counted (read_fine atoms c u (sym e)) }
  both_clauses task atoms counted (Err f) e = rw task.found (rw counted at e)

  -- a refusal of one of them is that of every call that asks them first
  pub both_refused :
      {A : Type 0} (k : Task → List (List ℕ) → Answer A) (r : Refusal) → refused r ≡ verdict (read_both w c)
      → (read_task w >>= λ t. read_clauses t.atoms c >>= k t) ≡ refused r
  unfolding read_both ◌>>=◌ verdict
  both_refused k r h = go (read_task w) h
    where
      last : (t : Task) (m : Answer (List (List ℕ))) → refused r ≡ verdict m → (m >>= k t) ≡ refused r
      last t (finding C) e = absurd (not_finding e)
      last t (refused q) e = ap refused (sym (same_refusal_lem r q e))

      go : (m : Answer Task) → refused r ≡ verdict (m >>= λ t. read_clauses t.atoms c) → (m >>= λ t. read_clauses t.atoms c >>= k t) ≡ refused r
      go (finding t) e = last t (read_clauses t.atoms c) e
      go (refused q) e = cc
