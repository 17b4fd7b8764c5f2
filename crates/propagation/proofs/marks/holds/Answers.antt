-- `propagation::marks::holds`: the byte of a literal of the atoms is there.
use native.Mathlib.Omega.{arith}
use Rattle.definitions.proofs.MarkBits.{mark_inside}
use Rattle.propagation.proofs.marks.holds.Goals as goal

pub returns-else-l-marks : goal.returns-else-l-marks
returns-else-l-marks c = λ N S m low. absurd (omega (arith, m.room, mark_inside N c.args.l low, c.if-l-marks.false))
