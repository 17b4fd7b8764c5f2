-- What the checker's verdict says to the calls that ask its questions first. Assumes nothing.
use mathlib.Core.Path.{◌≡◌, sym, ◌∙◌, ap, subst}
use mathlib.Core.List.{List}
use Prim.Native.Nat.{ℕ}
use lib.Dec.{leb}
use Rattle.definitions.specs.Answer.{finding, verdict, ask}
use Rattle.definitions.specs.Image.{Task, read_task}
use Rattle.definitions.specs.Clauses.{read_clauses}
use Rattle.definitions.specs.Checker.{accept, check}
use Rattle.definitions.specs.Marks.{mark_bytes}
use Rattle.definitions.proofs.AnswerLaws.{same_finding, bind_of}
use Rattle.task.specs.Reads.{task_in, task_of}
use Rattle.clause.specs.Rows.{clauses_of, ClausesRead}
use Rattle.answer.proofs.Laws.{verdict_finding}
use Rattle.clause.proofs.ReadLaws.{read_are, read_of}
use Rattle.checker.specs.Accepts.{Accepts}

module _ (w c : List ℕ) (marks : ℕ) where
  found_task : (t : Task) → read_task w ≡ finding t → t ≡ task_of w
  unfolding task_of task_in
  found_task t e = rw e

  pub accepted : finding tt ≡ verdict (check w c marks) → Accepts w c marks
  unfolding check
  accepted h =
      let a = verdict_finding (check w c marks) tt (sym h) in
      let p = bind_of (read_task w) _ a.0 a.1 in
      let t = p.0 in
      let q = bind_of (read_clauses t.atoms c) _ a.0 p.2 in
      let r = bind_of (ask 13 (leb (mark_bytes t.atoms) marks)) _ a.0 q.2 in
      let s = bind_of (accept t q.0) (λ _. finding (record { task = t; clauses = q.0 })) a.0 r.2 in
      let is-task : t ≡ task_of w = found_task t p.1 in
      let is_set : q.0 ≡ clauses_of c = read_are t.atoms c q.0 q.1 in
      let is-both : record { task = t; clauses = q.0 } ≡ a.0 = same_finding (record { task = t; clauses = q.0 }) a.0 s.2 in
      record {
        reads = record { found = p.1 ∙ ap finding is-task };
        rows = subst (λ (z : Task). ClausesRead z.atoms c) is-task (read_of t.atoms c q.0 q.1);
        found = a.1 ∙ ap finding (sym is-both ∙ cc);
      }
