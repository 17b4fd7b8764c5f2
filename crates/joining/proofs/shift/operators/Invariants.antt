-- `joining::shift::operators`: the operators from i on are left to be written.
use Rattle.std.proofs.Common.{drop}
use Rattle.task.specs.Reads.{task_of}
use Rattle.writing.specs.Writing.{Writing}
use Rattle.joining.specs.Behind.{operators_behind}
use Rattle.joining.proofs.shift.operators.Given as goal

abbrev pub invariant-loop-i : goal.invariant-loop-i
invariant-loop-i l =
    Writing l.fn.target l.at (operators_behind l.before (task_of l.image).operators) l.target l.to
    (operators_behind l.before (drop l.i (task_of l.image).operators))
