-- `reencoding::parts::operators`: the words of the operators from i on are left to be written.
use Rattle.std.proofs.Common.{drop}
use Rattle.task.specs.Reads.{task_of}
use Rattle.writing.specs.Writing.{Writing}
use Rattle.reencoding.specs.Parts.{operators_by}
use Rattle.reencoding.proofs.parts.operators.Given as goal

abbrev pub invariant-loop-i : goal.invariant-loop-i
invariant-loop-i l =
    Writing l.fn.target l.at (operators_by l.places (task_of l.image).operators) l.target l.to
    (operators_by l.places (drop l.i (task_of l.image).operators))
