-- `reencoding::parts::block_lengths`: the size of operator i is the next one to be written.
use Rattle.std.proofs.Common.{arith}
use Rattle.task.proofs.BlockSizes.{made_next}
use Rattle.writing.proofs.Writes.{write_same, write_word}
use Rattle.reencoding.specs.Parts.{words_of}
use Rattle.reencoding.proofs.parts.block_lengths.Goals as goal

pub loop-i-preserved : goal.loop-i-preserved
loop-i-preserved c =
    write_word (write_same (made_next _ c.loop-i.i words_of _ c.block_size.ensures.0 (omega arith)) c.loop-i.invariant)
