-- `literal::is_atom_list`: the whole test is the test of what is left at the first word.
use Rattle.literal.proofs.Ascends.{atoms_ascend}
use Rattle.literal.proofs.is_atom_list.Goals as goal

pub loop-word-init : goal.loop-word-init
loop-word-init c = atoms_ascend _ _
