-- `coding::atom::write`: the target begins with the bytes of the atoms.
use Rattle.fdr_image.specs.Reads.{fdr_of}
use Rattle.coding.proofs.Laws.{Written, atom_at}
use Rattle.coding.proofs.atom.write.Given as goal

abbrev pub invariant-loop-a : goal.invariant-loop-a
invariant-loop-a l = Written (atom_at (fdr_of l.image) l.state) l.target l.a
