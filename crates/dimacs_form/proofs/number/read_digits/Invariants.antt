-- `dimacs_form::number::read_digits`: the digits before a place are read (`Reading`).
use Rattle.dimacs_form.proofs.NumberLaws.{Reading}
use Rattle.dimacs_form.proofs.number.read_digits.Given as goal

abbrev pub invariant-loop-b : goal.invariant-loop-b
invariant-loop-b l = Reading l.word l.size l.b-index
