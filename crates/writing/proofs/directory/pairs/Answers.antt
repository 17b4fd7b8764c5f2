-- `writing::directory::pairs`: the laws of the pairs so far.
use native.Mathlib.Omega.{arith}
use Rattle.writing.proofs.DirectoryLaws.{offset_most, pairing_room, pairing_next, pairing_done}
use Rattle.writing.proofs.directory.pairs.Goals as goal

pub pair-to-requires : goal.pair-to-requires
pair-to-requires c =
    let s = c.loop-length.invariant in
    let h = offset_most s c.loop-length-test.true in
    (omega arith, omega arith, pairing_room s c.loop-length-test.true c.requires.1)

pub loop-length-preserved : goal.loop-length-preserved
loop-length-preserved c = rw c.from-size.ensures (pairing_next c.loop-length.invariant c.loop-length-test.true (rw c.from-size.ensures at c.pair-to.ensures))

pub returns : goal.returns
returns c = pairing_done c.loop-length.invariant c.loop-length-test.false
