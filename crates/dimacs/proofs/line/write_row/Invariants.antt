-- `dimacs::line::write_row`: the literals from one on, each with a space, are left to be written, then 0 and the line's end.
use Rattle.writing.specs.Writing.{Writing}
use Rattle.dimacs.specs.Write.{row_line}
use Rattle.dimacs.proofs.Parts.{literals_from}
use Rattle.dimacs.proofs.line.write_row.Given as goal

abbrev pub invariant-loop-l : goal.invariant-loop-l
invariant-loop-l l = Writing l.initial.out l.at (row_line l.literals) l.out l.to (literals_from l.l-index l.literals)
