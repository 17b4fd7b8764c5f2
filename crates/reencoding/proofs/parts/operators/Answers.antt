-- `reencoding::parts::operators`: the operator of block i is the next one to be written, and it finds room.
use Rattle.std.proofs.Common.{arith}
use Rattle.reencoding.proofs.PartLaws.{operator_given, operator_written, operators_written}
use Rattle.reencoding.proofs.parts.operators.Goals as goal

pub operator-to-requires : goal.operator-to-requires
operator-to-requires c = operator_given _ _ _ c.loop-i.invariant (omega arith) c.operator_block.ensures c.requires.0 c.requires.1 c.requires.2

pub loop-i-preserved : goal.loop-i-preserved
loop-i-preserved c = operator_written _ _ _ c.loop-i.invariant (omega arith) c.operator_block.ensures c.operator-to.ensures

pub returns : goal.returns
returns c = operators_written _ _ _ c.loop-i.invariant (omega arith)
