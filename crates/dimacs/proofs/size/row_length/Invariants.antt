-- `dimacs::size::row_length`: the bytes of the literals from one on, and those counted so far, are those of the line.
use Rattle.std.proofs.Common.{◌≡◌, ◌+◌, length, drop}
use Rattle.definitions.specs.Lists.{each}
use Rattle.dimacs.specs.Write.{literal_field, row_line}
use Rattle.dimacs.proofs.size.row_length.Given as goal

abbrev pub invariant-loop-l : goal.invariant-loop-l
invariant-loop-l l = length (row_line l.literals) ≡ l.sum + length (each literal_field (drop l.l-index l.literals))
