-- The set of each round stands in the clause buffer.
use Rattle.std.proofs.Common.{◌-◌}
use Rattle.definitions.specs.Synthesis.{first_set, rounds}
use Rattle.task.specs.Reads.{task_of}
use Rattle.synthesis.proofs.Rounds.{Standing}
use Rattle.synthesis.proofs.run.Given as goal

abbrev pub invariant-loop-end : goal.invariant-loop-end
invariant-loop-end l =
    Standing l.image l.atoms l.n l.limit l.rows l.clauses l.count l.made
    (rounds (task_of l.image) l.n l.rows 1 (l.limit - 1) (first_set (task_of l.image)))

abbrev pub decreases-loop-end : goal.decreases-loop-end
decreases-loop-end l = l.limit - l.made
