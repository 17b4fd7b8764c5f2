-- `propagation::marks::count_last`: the ones of the last byte, masked.
use Prim.Native.Nat.{◌/◌}
use native.Mathlib.Omega.{arith}
use Rattle.definitions.specs.Marks.{mark_bytes}
use Rattle.definitions.proofs.MarkBits.{count_whole, count_masked, masked_low}
use Rattle.propagation.proofs.marks.count_last.Goals as goal

pub returns-then-bits-eq0 : goal.returns-then-bits-eq0
returns-then-bits-eq0 c = (omega arith, count_whole _ _ c.if-bits-eq0.true)

pub bounds-marks-atoms : goal.bounds-marks-atoms
unfolding mark_bytes
bounds-marks-atoms c = omega arith

pub returns : goal.returns
returns c = (masked_low c.args.atoms c.args.marks.now (c.type_inv.marks (c.args.atoms / 4)).fits, count_masked _ _)
