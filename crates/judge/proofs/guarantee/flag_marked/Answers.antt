-- `judge::guarantee::flag_marked`: the flag of each literal is that of its mark.
use Rattle.std.proofs.Common.{◌<◌, ◌*◌, length, ap, ◌∙◌, arith}
use Rattle.definitions.specs.Closure.{bit}
use Rattle.literal.proofs.Bits.{bool_bit}
use Rattle.judge.proofs.Flagged.{flags_more, flags_end}
use Rattle.judge.proofs.guarantee.flag_marked.Goals as goal

pub loop-l-preserved : goal.loop-l-preserved
loop-l-preserved c =
    let inside : c.loop-l.l < length c.loop-l.flags = omega arith in
    let low : c.loop-l.l < 2 * c.args.atoms = omega (arith, c.requires.1) in
    λ K m. flags_more K _ _ _ inside (c.from.ensures ∙ bool_bit _ ∙ ap bit (c.holds.ensures _ K m low)) (c.loop-l.invariant K m)

pub returns : goal.returns
returns c = λ K m. flags_end _ K _ c.loop-l.l (omega (arith, c.requires.1)) (omega (arith, c.requires.1)) (c.loop-l.invariant K m)
