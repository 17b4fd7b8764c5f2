-- `propagation::seed`: the literals before are added.
use Rattle.propagation.specs.Walk.{set_of, RestKept}
use Rattle.propagation.proofs.Seeds.{Seeding}
use Rattle.propagation.proofs.seed.Given as goal

abbrev pub invariant-loop-l : goal.invariant-loop-l
invariant-loop-l l =
    RestKept l.atoms l.initial.marks l.marks
    × Seeding l.stops (set_of l.atoms l.initial.marks) l.literals (set_of l.atoms l.marks) l.l-index l.pass
