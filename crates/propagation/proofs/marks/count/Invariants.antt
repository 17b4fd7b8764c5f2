-- `propagation::marks::count`: the ones of the bytes before are the marked literals below 8 times their number.
use Rattle.std.proofs.Common.{◌≡◌, ◌*◌, ◌≤◌, length}
use Rattle.definitions.specs.Lists.{keep, below}
use Rattle.definitions.specs.Marks.{marked}
use Rattle.propagation.proofs.marks.count.Given as goal

abbrev pub invariant-loop-byte : goal.invariant-loop-byte
invariant-loop-byte l = (l.number ≤ 8 * l.byte-index) × (l.number ≡ length (keep (marked l.marks) (below (8 * l.byte-index))))
