-- `dimacs_rows::collect_by`: the clauses before a place are read, and their rows stored (`Collecting`).
use Rattle.std.proofs.Common.{length, ◌-◌}
use Rattle.dimacs_rows.proofs.CollectLaws.{Collecting}
use Rattle.dimacs_rows.proofs.collect_by.Given as goal

abbrev pub invariant-loop-at : goal.invariant-loop-at
invariant-loop-at l = Collecting l.text l.from l.at l.rows l.stored

abbrev pub decreases-loop-at : goal.decreases-loop-at
decreases-loop-at l = length l.text - l.at
