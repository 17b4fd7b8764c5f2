-- `joining::parts::block_lengths`: the length of block i is the next one to be written.
use Rattle.std.proofs.Common.{sym, arith}
use Rattle.definitions.specs.Image.{operator_size}
use Rattle.task.proofs.BlockSizes.{size_is, block_most, made_next}
use Rattle.writing.proofs.Writes.{write_same, write_word}
use Rattle.joining.proofs.parts.block_lengths.Goals as goal

pub overflow_cast-lengths : goal.overflow_cast-lengths
overflow_cast-lengths c = omega (arith, block_most _ c.requires.0 _ (omega arith) _ c.operator_block-block.ensures)

pub loop-i-preserved : goal.loop-i-preserved
loop-i-preserved c =
    let size = size_is _ c.requires.0 _ (omega arith) _ c.operator_block-block.ensures in
    write_word (write_same (made_next _ c.loop-i.i operator_size _ (sym size) (omega arith)) c.loop-i.invariant)
