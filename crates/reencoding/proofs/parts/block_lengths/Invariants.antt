-- `reencoding::parts::block_lengths`: the lengths of the operators from i on are left to be written.
use Rattle.std.proofs.Common.{map, drop}
use Rattle.task.specs.Reads.{task_of}
use Rattle.writing.specs.Writing.{Writing}
use Rattle.reencoding.specs.Parts.{words_of}
use Rattle.reencoding.proofs.parts.block_lengths.Given as goal

abbrev pub invariant-loop-i : goal.invariant-loop-i
invariant-loop-i l =
    Writing l.fn.lengths l.at (map words_of (task_of l.image).operators) l.lengths l.to (map words_of (drop l.i (task_of l.image).operators))
