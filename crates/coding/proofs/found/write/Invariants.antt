-- `coding::found::write`: the target begins with the values of the variables.
use Rattle.fdr_image.specs.Reads.{fdr_of}
use Rattle.coding.proofs.Laws.{Written, value_by}
use Rattle.coding.proofs.found.write.Given as goal

abbrev pub invariant-loop-v : goal.invariant-loop-v
invariant-loop-v l = Written (value_by (fdr_of l.image) l.values) l.target l.v
