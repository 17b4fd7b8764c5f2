use Rattle.std.proofs.Common.{◌∙◌, arith}
use Rattle.definitions.specs.Literal.{most_atoms}
use Rattle.fdr.proofs.Notes.{low_row}
use Rattle.fdr.proofs.ByRows.{unnoted_next}
use Rattle.fdr.proofs.change.unnote.Goals as goal

pub offset_bounds-changes-row : goal.offset_bounds-changes-row
offset_bounds-changes-row c = omega (arith, (low_row most_atoms _ _ _ c.in-Some.ensures.steps c.loop-row.invariant.low).0)

pub bounds-changes-row : goal.bounds-changes-row
bounds-changes-row c = omega (arith, (low_row most_atoms _ _ _ c.in-Some.ensures.steps c.loop-row.invariant.low).0, c.requires.1)

pub loop-row-preserved : goal.loop-row-preserved
loop-row-preserved c = record {
  low = (low_row most_atoms _ _ _ c.in-Some.ensures.steps c.loop-row.invariant.low).1;
  changes = c.loop-row.invariant.changes ∙ unnoted_next _ _ _ c.in-Some.ensures.steps c.loop-row.changes;
}
