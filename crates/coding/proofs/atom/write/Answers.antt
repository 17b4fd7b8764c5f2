-- The walk ends where the target does, which has a byte for each atom.
use Rattle.std.proofs.Common.{arith, ◌∙◌}
use Rattle.coding.proofs.Laws.{written_all, atoms_are}
use Rattle.coding.proofs.atom.write.Goals as goal

pub returns : goal.returns
returns c = written_all _ c.loop-a.invariant _ (omega arith) (omega (arith, c.requires.target)) ∙ atoms_are _ _
