-- What all rows leave is what those that are left leave of the changes so far.
use Rattle.std.proofs.Common.{◌≡◌, true, ltb}
use Rattle.definitions.specs.Lists.{all}
use Rattle.definitions.specs.Literal.{most_atoms}
use Rattle.fdr_image.specs.Walk.{operator_in}
use Rattle.fdr_image.specs.Rows.{rows_left}
use Rattle.fdr.specs.Change.{unnoted}
use Rattle.fdr.proofs.change.unnote.Given as goal

abbrev pub invariant-loop-row : goal.invariant-loop-row
invariant-loop-row l = record {
  low : all (λ r. ltb r.variable most_atoms) (rows_left l.row-iterator) ≡ true;
  changes : unnoted (operator_in l.block).rows l.fn.changes ≡ unnoted (rows_left l.row-iterator) l.changes;
}
