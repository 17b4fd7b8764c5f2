use Rattle.clause.specs.Rows.{clauses_of}
use Rattle.cover.specs.Join.{Apart}
use Rattle.cover.proofs.mutex.MutexAtoms.mark_apart.Given as goal

abbrev pub invariant-loop-b : goal.invariant-loop-b
invariant-loop-b l = Apart (clauses_of l.self.clauses.now) l.places l.a l.b l.apart
