-- What all fired rows note is what those that are left note in the changes so far.
use Rattle.std.proofs.Common.{◌≡◌, List, ℕ, true, ltb}
use Rattle.definitions.specs.Lists.{all, keep}
use Rattle.definitions.specs.Literal.{most_atoms}
use Rattle.definitions.specs.Fdr.{fdr_all_true}
use Rattle.definitions.specs.FdrStep.{fdr_fired}
use Rattle.fdr_image.specs.Walk.{operator_in}
use Rattle.fdr_image.specs.Rows.{rows_left}
use Rattle.fdr.specs.Change.{note_fired}
use Rattle.fdr.specs.Post.{NotedFor}
use Rattle.fdr.proofs.change.note.Given as goal

abbrev pub invariant-loop-row : goal.invariant-loop-row
invariant-loop-row l = record {
  low : all (λ r. ltb r.variable most_atoms) (rows_left l.row-iterator) ≡ true;
  noted :
      note_fired l.state (fdr_fired l.state (operator_in l.block)) l.fn.changes
      ≡ note_fired l.state (keep (λ r. fdr_all_true l.state r.conditions) (rows_left l.row-iterator)) l.changes;
  apart : (x : List ℕ) → NotedFor (rows_left l.row-iterator) l.changes x → NotedFor (operator_in l.block).rows l.fn.changes x;
}
