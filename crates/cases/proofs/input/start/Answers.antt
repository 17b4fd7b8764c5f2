use Rattle.std.proofs.Common.{arith, refl}
use Rattle.cases.specs.Case.{values_at}
use Rattle.cases.proofs.Laws.{values_next, values_high}
use Rattle.cases.proofs.input.start.Goals as goal

pub loop-i-init : goal.loop-i-init
unfolding values_at
loop-i-init c = refl

pub overflow_add-from-in-loop-i : goal.overflow_add-from-in-loop-i
overflow_add-from-in-loop-i c =
    let e = c.loop-i.invariant in
    let high = values_high c.args.words.now c.args.at c.loop-i.i in
    omega (arith, c.requires, c.stored-from.ensures, c.loop-i-test.true)

pub loop-i-preserved : goal.loop-i-preserved
loop-i-preserved c = omega (arith, c.loop-i.invariant, c.stored-from.ensures, values_next c.args.words.now c.args.at c.loop-i.i)
