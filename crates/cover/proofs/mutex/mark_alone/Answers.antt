-- `cover::mutex::mark_alone`: the marks of the atoms below a are right, and that of a is.
use Rattle.std.proofs.Common.{◌<◌, length, ◌∙◌, arith}
use Rattle.literal.proofs.Bits.{bool_bit}
use Rattle.cover.proofs.Lookups.{alone_on}
use Rattle.cover.proofs.mutex.mark_alone.Goals as goal

pub loop-a-preserved : goal.loop-a-preserved
loop-a-preserved c =
    let inside : c.loop-a.a < length c.loop-a.alone = omega arith in
    alone_on _ _ _ _ _ _ inside c.loop-a.invariant c.negative.ensures c.has_one.ensures (c.from.ensures ∙ bool_bit _)
