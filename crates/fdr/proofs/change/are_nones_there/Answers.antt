use Rattle.std.proofs.Common.{sym, ◌∙◌, arith}
use Rattle.fdr.proofs.Notes.{low_row}
use Rattle.fdr.proofs.ByRows.{nones_off, nones_on, nones_end}
use Rattle.fdr.proofs.change.are_nones_there.Goals as goal

pub offset_bounds-changes-row : goal.offset_bounds-changes-row
offset_bounds-changes-row c = omega (arith, (low_row _ _ _ _ c.in-Some.ensures.steps c.loop-row.invariant.low).0, c.requires.1.few)

pub bounds-changes-row : goal.bounds-changes-row
bounds-changes-row c = omega (arith, (low_row _ _ _ _ c.in-Some.ensures.steps c.loop-row.invariant.low).0, c.requires.1.long)

pub is_omitted-requires : goal.is_omitted-requires
is_omitted-requires c = (low_row _ _ _ _ c.in-Some.ensures.steps c.loop-row.invariant.low).0

pub returns-then-is_omitted : goal.returns-then-is_omitted
returns-then-is_omitted c =
    sym
    (c.loop-row.invariant.nones
    ∙ nones_off _ _ _ c.in-Some.ensures.steps _ _ _ c.is_omitted.ensures c.if-is_omitted.true)

pub loop-row-preserved : goal.loop-row-preserved
loop-row-preserved c = record {
  low = (low_row _ _ _ _ c.in-Some.ensures.steps c.loop-row.invariant.low).1;
  nones = c.loop-row.invariant.nones ∙ nones_on _ _ _ c.in-Some.ensures.steps _ _ _ c.is_omitted.ensures c.if-is_omitted.false;
}

pub returns : goal.returns
returns c = sym (c.loop-row.invariant.nones ∙ nones_end _ c.in-None.ensures.steps.0 _ _)
