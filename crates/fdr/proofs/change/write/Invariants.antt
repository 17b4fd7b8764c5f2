-- What all rows write is what those that are left write in the state so far.
use Rattle.std.proofs.Common.{◌≡◌, true, ltb, length}
use Rattle.definitions.specs.Lists.{all}
use Rattle.definitions.specs.FdrImage.{domains_in}
use Rattle.fdr_image.specs.Walk.{operator_in}
use Rattle.fdr_image.specs.Rows.{rows_left}
use Rattle.fdr.specs.Change.{written}
use Rattle.fdr.proofs.change.write.Given as goal

abbrev pub invariant-loop-row : goal.invariant-loop-row
invariant-loop-row l = record {
  low : all (λ r. ltb r.variable (length (domains_in l.domains))) (rows_left l.row-iterator) ≡ true;
  state :
      written (domains_in l.domains) l.changes (operator_in l.block).rows l.fn.state
      ≡ written (domains_in l.domains) l.changes (rows_left l.row-iterator) l.state;
}
