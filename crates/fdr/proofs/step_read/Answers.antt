-- The changes that are lent note nothing.
use Rattle.std.proofs.Common.{refl}
use Rattle.fdr.specs.Change.{no_changes}
use Rattle.fdr.proofs.step_read.Goals as goal

pub step_noted-requires : goal.step_noted-requires
unfolding no_changes
step_noted-requires c = (c.requires, refl)
