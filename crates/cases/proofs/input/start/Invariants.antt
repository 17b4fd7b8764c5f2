use Rattle.std.proofs.Common.{◌≡◌}
use Rattle.cases.specs.Case.{values_at}
use Rattle.cases.proofs.input.start.Given as goal

abbrev pub invariant-loop-i : goal.invariant-loop-i
invariant-loop-i l = l.from ≡ values_at l.words l.at l.i
