use Rattle.task.proofs.BlockSizes.{others_over}
use Rattle.joining.proofs.ShiftLaws.{row_given, row_written, rows_written}
use Rattle.joining.proofs.shift.rows.Goals as goal

pub row-to-requires : goal.row-to-requires
row-to-requires c =
    row_given _ c.in-Some.ensures.steps c.loop-effect.invariant.words c.requires.0 c.loop-effect.invariant.over c.requires.2

pub loop-effect-preserved : goal.loop-effect-preserved
loop-effect-preserved c = record {
  over = others_over c.loop-effect.invariant.over c.in-Some.ensures.steps;
  words = row_written _ c.in-Some.ensures.steps c.loop-effect.invariant.words c.row-to.ensures;
}

pub shape_of-target : goal.shape_of-target
shape_of-target c = c.loop-effect.invariant.words.size

pub returns : goal.returns
returns c = rows_written _ c.in-None.ensures.steps.0 c.loop-effect.invariant.words
