use Rattle.clause.specs.Rows.{clauses_of}
use Rattle.cover.proofs.Lookups.{AloneBelow}
use Rattle.cover.proofs.mutex.mark_alone.Given as goal

abbrev pub invariant-loop-a : goal.invariant-loop-a
invariant-loop-a l = AloneBelow (clauses_of l.clauses) l.alone l.a
