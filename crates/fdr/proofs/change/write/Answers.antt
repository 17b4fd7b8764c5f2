use Rattle.std.proofs.Common.{◌∙◌, arith}
use Rattle.fdr.proofs.Notes.{low_row}
use Rattle.fdr.proofs.ByRows.{written_next}
use Rattle.fdr.proofs.change.write.Goals as goal

pub offset_bounds-changes-variable : goal.offset_bounds-changes-variable
offset_bounds-changes-variable c = omega (arith, (low_row _ _ _ _ c.in-Some.ensures.steps c.loop-row.invariant.low).0, c.requires.changes.few)

pub bounds-changes-variable : goal.bounds-changes-variable
bounds-changes-variable c = omega (arith, (low_row _ _ _ _ c.in-Some.ensures.steps c.loop-row.invariant.low).0, c.requires.changes.long)

pub offset_bounds-state-variable : goal.offset_bounds-state-variable
offset_bounds-state-variable c = omega (arith, (low_row _ _ _ _ c.in-Some.ensures.steps c.loop-row.invariant.low).0, c.requires.changes.few)

pub bounds-state-variable : goal.bounds-state-variable
bounds-state-variable c = omega (arith, (low_row _ _ _ _ c.in-Some.ensures.steps c.loop-row.invariant.low).0, c.requires.size)

pub new_value-requires : goal.new_value-requires
new_value-requires c =
    let z = (low_row _ _ _ _ c.in-Some.ensures.steps c.loop-row.invariant.low).0 in
    record { low = z; size = c.requires.changes.sizes _ z; inside = c.requires.changes.inside _ z }

pub offset_bounds-state-variable-in-loop-row : goal.offset_bounds-state-variable-in-loop-row
offset_bounds-state-variable-in-loop-row c =
    omega (arith, (low_row _ _ _ _ c.in-Some.ensures.steps c.loop-row.invariant.low).0, c.requires.changes.few)

pub bounds-state-variable-in-loop-row : goal.bounds-state-variable-in-loop-row
bounds-state-variable-in-loop-row c =
    omega (arith, (low_row _ _ _ _ c.in-Some.ensures.steps c.loop-row.invariant.low).0, c.requires.size)

pub loop-row-preserved : goal.loop-row-preserved
loop-row-preserved c = record {
  low = (low_row _ _ _ _ c.in-Some.ensures.steps c.loop-row.invariant.low).1;
  state = c.loop-row.invariant.state ∙ written_next _ _ _ c.in-Some.ensures.steps _ _ c.loop-row.state _ c.new_value.ensures;
}
