-- The answers of the call: a refusal of the checker, question 16, the groups. Assumes nothing.
use mathlib.Core.Path.{◌≡◌, sym, ◌∙◌, ap, subst}
use mathlib.Core.List.{List}
use Prim.Native.Nat.{ℕ, ◌+◌, ◌*◌, ◌≤◌}
use native.Mathlib.Omega.{arith}
use lib.Dec.{leb}
use lib.ListN.{length}
use Rattle.definitions.specs.Answer.{Refusal, finding, refused, outcome, verdict, ask}
use Rattle.definitions.specs.Checker.{check}
use Rattle.definitions.specs.Groups.{groups, group_words, written, groups_call}
use Rattle.answer.proofs.Laws.{refused_first, handed_on}
use Rattle.task.specs.Reads.{task_of}
use Rattle.clause.specs.Rows.{clauses_of}
use Rattle.checker.specs.Accepts.{Accepts}
use Rattle.checker.proofs.Written.{call_accepted}
use Rattle.writing.specs.Writing.{Wrote}
use Rattle.writing.proofs.Writes.{wrote_same}
use Rattle.writing.proofs.Target.{fits_done}
use Rattle.cover.specs.Cover.{Covered}
use Rattle.cover.specs.Domains.{cover_words}
use Rattle.cover.proofs.Covering.{words_are, words_length}
use Rattle.groups.specs.Groups.{groups_answer}

module _ (w c : List ℕ) (marks : ℕ) (old : List ℕ) where
  pub groups_refused : (r : Refusal) → refused r ≡ verdict (check w c marks) → refused r ≡ groups_call w c marks (length old)
  unfolding groups_call
  groups_refused r e = refused_first (check w c marks) _ r e

  pub groups_accepted :
      Accepts w c marks
      → written old (groups_answer (task_of w).atoms (clauses_of c) (length old)) ≡ written old (groups_call w c marks (length old))
  unfolding groups_call groups_answer
  groups_accepted a = call_accepted w c marks (λ x. groups_answer x.task.atoms x.clauses (length old)) old a

module _ (N : ℕ) (C : List (List ℕ)) (ps ss ns : List ℕ) (n : ℕ) (cov : Covered N C ps ss ns n) (old : List ℕ) where
  pub groups_not : (r : Refusal) → refused r ≡ ask 16 (leb (2 * n + 2 * N) (length old)) → refused r ≡ groups_answer N C (length old)
  unfolding groups_answer
  groups_not r h =
      let e = words_length N C ps ss ns n cov in
      handed_on _ _ r (subst (λ (k : ℕ). refused r ≡ ask 16 (leb k (length old))) (sym e) h)

  pub groups_done :
      2 * n + 2 * N ≤ length old → {new : List ℕ} {end : ℕ} → Wrote old 0 (cover_words ps ss ns n) new end
      → outcome (finding n) new ≡ written old (groups_answer N C (length old))
  unfolding groups_answer groups
  groups_done h {new = new} w =
      let e = words_length N C ps ss ns n cov in
      ap (λ (k : ℕ). outcome (finding k) new) cov.grouped.count
      ∙ fits_done 16 (length (groups N C)) (group_words N C) old (omega arith) (wrote_same (words_are N C ps ss ns n cov) w)
