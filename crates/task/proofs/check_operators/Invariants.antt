-- The verdict of all operators is that of the operators that are left.
use Rattle.std.proofs.Common.{◌≡◌, ◌-◌}
use Rattle.definitions.specs.Answer.{verdict}
use Rattle.definitions.specs.Image.{read_operators}
use Rattle.task.proofs.check_operators.Given as goal

abbrev pub invariant-loop-i : goal.invariant-loop-i
invariant-loop-i l =
    verdict (read_operators l.atoms l.image 0 l.operators) ≡ verdict (read_operators l.atoms l.image l.i (l.operators - l.i))
