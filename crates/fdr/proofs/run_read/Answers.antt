-- The changes that are lent note nothing.
use Rattle.std.proofs.Common.{refl}
use Rattle.fdr.specs.Change.{no_changes}
use Rattle.fdr.proofs.run_read.Goals as goal

pub run_noted-requires : goal.run_noted-requires
unfolding no_changes
run_noted-requires c = (c.requires, refl)
