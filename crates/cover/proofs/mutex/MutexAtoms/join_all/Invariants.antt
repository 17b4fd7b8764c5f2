use Rattle.clause.specs.Rows.{clauses_of}
use Rattle.cover.specs.Join.{Grouped}
use Rattle.cover.proofs.mutex.MutexAtoms.join_all.Given as goal

abbrev pub invariant-loop-a : goal.invariant-loop-a
invariant-loop-a l = Grouped (clauses_of l.self.clauses.now) l.a l.places l.sizes l.count
