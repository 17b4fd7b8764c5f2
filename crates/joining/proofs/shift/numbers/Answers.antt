-- `joining::shift::numbers`: the number at the index is the next one to be written, and it finds room.
use Rattle.std.proofs.Common.{arith}
use Rattle.joining.proofs.ShiftLaws.{number_low, number_room, number_written, numbers_written}
use Rattle.joining.proofs.shift.numbers.Goals as goal

pub overflow_add-target : goal.overflow_add-target
overflow_add-target c = omega (arith, number_low _ _ _ c.requires.0 c.loop-x-test.true)

pub offset_bounds-target-to : goal.offset_bounds-target-to
offset_bounds-target-to c = omega (arith, number_room _ _ _ c.loop-x.invariant c.loop-x-test.true c.requires.1)

pub bounds-target-to : goal.bounds-target-to
bounds-target-to c = (number_room _ _ _ c.loop-x.invariant c.loop-x-test.true c.requires.1).0

pub overflow_add-to : goal.overflow_add-to
overflow_add-to c = omega (arith, number_room _ _ _ c.loop-x.invariant c.loop-x-test.true c.requires.1)

pub loop-x-preserved : goal.loop-x-preserved
loop-x-preserved c = number_written _ _ _ c.loop-x.invariant c.loop-x-test.true

pub returns : goal.returns
returns c = numbers_written _ _ _ c.loop-x.invariant c.loop-x-test.false
