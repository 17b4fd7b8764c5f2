use Rattle.task.proofs.BlockSizes.{others_over}
use Rattle.reencoding.proofs.WordLaws.{row_given, row_written, rows_written}
use Rattle.reencoding.proofs.block.rows.Goals as goal

pub row-to-requires : goal.row-to-requires
row-to-requires c = row_given _ c.in-Some.ensures.steps c.loop-code.invariant.words c.requires.0 c.loop-code.invariant.over

pub loop-code-preserved : goal.loop-code-preserved
loop-code-preserved c = record {
  over = others_over c.loop-code.invariant.over c.in-Some.ensures.steps;
  words = row_written _ c.in-Some.ensures.steps c.loop-code.invariant.words c.row-to.ensures;
}

pub shape_of-target : goal.shape_of-target
shape_of-target c = c.loop-code.invariant.words.size

pub returns : goal.returns
returns c = rows_written _ c.in-None.ensures.steps.0 c.loop-code.invariant.words
