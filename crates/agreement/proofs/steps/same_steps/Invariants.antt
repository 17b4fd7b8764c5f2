-- `agreement::steps::same_steps`: the comparison along the whole list is that along what is left of it, from the states so far.
use Rattle.agreement.proofs.Comparing.{Stepping}
use Rattle.agreement.proofs.steps.same_steps.Given as goal

abbrev pub invariant-loop-operator : goal.invariant-loop-operator
invariant-loop-operator l = Stepping l.image l.encoded l.clauses l.list l.fn.state l.fn.values l.state l.values l.operator-index
