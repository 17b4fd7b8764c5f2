-- `reencoding::block::literals`: the literal at the index is the next one to be written, and it finds room.
use Rattle.reencoding.proofs.WordLaws.{literal_given, literal_written, literals_written}
use Rattle.reencoding.proofs.block.literals.Goals as goal

pub literal-to-requires : goal.literal-to-requires
literal-to-requires c = literal_given _ _ _ c.loop-l.invariant c.loop-l-test.true c.requires.0 c.requires.1

pub loop-l-preserved : goal.loop-l-preserved
loop-l-preserved c = literal_written _ _ _ c.loop-l.invariant c.loop-l-test.true c.literal-to.ensures

pub returns : goal.returns
returns c = literals_written _ _ _ c.loop-l.invariant c.loop-l-test.false
