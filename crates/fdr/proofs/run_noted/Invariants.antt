-- The run of the whole list is that of what is left of it, from the state so far.
use Rattle.std.proofs.Common.{◌≡◌}
use Rattle.definitions.specs.FdrStep.{fdr_step}
use Rattle.answer.proofs.ReaderCalls.{Running}
use Rattle.fdr_image.specs.Reads.{fdr_of}
use Rattle.fdr.proofs.run_noted.Given as goal

abbrev pub invariant-loop-steps : goal.invariant-loop-steps
invariant-loop-steps l = Running (fdr_step (fdr_of l.image)) l.list l.initial.state l.state l.steps-counter × (l.changes ≡ l.initial.changes)
