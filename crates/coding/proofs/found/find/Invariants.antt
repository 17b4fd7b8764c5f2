-- `coding::found::find`: what is noted, and the true values of the atoms that are left, make all true values.
use Rattle.fdr_image.specs.Reads.{fdr_of}
use Rattle.coding.proofs.Laws.{Walked}
use Rattle.coding.proofs.found.find.Given as goal

abbrev pub invariant-loop-a : goal.invariant-loop-a
invariant-loop-a l = Walked (fdr_of l.image) l.state l.a l.values
