-- `joining::shift::numbers`: the numbers from the index on are left to be written.
use Rattle.std.proofs.Common.{drop}
use Rattle.definitions.specs.Join.{shifted}
use Rattle.writing.specs.Writing.{Writing}
use Rattle.joining.proofs.shift.numbers.Given as goal

abbrev pub invariant-loop-x : goal.invariant-loop-x
invariant-loop-x l = Writing l.fn.target l.at (shifted l.by l.list) l.target l.to (shifted l.by (drop l.x-index l.list))
