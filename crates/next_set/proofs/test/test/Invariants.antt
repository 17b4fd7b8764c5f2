use Rattle.clause.specs.Rows.{clauses_of}
use Rattle.task.specs.Reads.{task_of}
use Rattle.next_set.proofs.Noting.{TestedBelow}
use Rattle.next_set.proofs.test.test.Given as goal

-- the clauses that fail under one of the operators tested so far have their flag, and are noted
abbrev pub invariant-loop-operator : goal.invariant-loop-operator
invariant-loop-operator l = TestedBelow (task_of l.image) (clauses_of l.clauses) l.failing l.due l.operator
