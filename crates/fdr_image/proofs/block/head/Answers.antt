-- `fdr_image::block::head`: a block that parses has the words of its head.
use native.Mathlib.Omega.{arith}
use Rattle.fdr_image.proofs.RowLaws.{block_room, block_read}
use Rattle.fdr_image.proofs.block.head.Goals as goal

pub bounds-block-0 : goal.bounds-block-0
bounds-block-0 c = omega (arith, block_room _ c.requires)

pub bounds-block-end : goal.bounds-block-end
bounds-block-end c = omega (arith, block_room _ c.requires, c.wide.ensures.0)

pub returns : goal.returns
returns c = block_read _ c.requires _ _ c.wide.ensures.0 c.wide-2.ensures.0
