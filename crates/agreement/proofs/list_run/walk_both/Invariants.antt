-- Both walks of the whole list are those of what is left of it, from the states so far.
use Rattle.agreement.proofs.Taken.{Walking}
use Rattle.agreement.proofs.list_run.walk_both.Given as goal

abbrev pub invariant-loop-operator : goal.invariant-loop-operator
invariant-loop-operator l = Walking l.image l.encoded l.list l.fn.state l.fn.values l.state l.values l.operator-index
