-- `joining::parts::block_lengths`: the lengths of the operators from i on are left to be written.
use Rattle.std.proofs.Common.{map, drop}
use Rattle.definitions.specs.Image.{operator_size}
use Rattle.task.specs.Reads.{task_of}
use Rattle.writing.specs.Writing.{Writing}
use Rattle.joining.proofs.parts.block_lengths.Given as goal

abbrev pub invariant-loop-i : goal.invariant-loop-i
invariant-loop-i l =
    Writing l.fn.lengths l.at (map operator_size (task_of l.image).operators) l.lengths l.to (map operator_size (drop l.i (task_of l.image).operators))
