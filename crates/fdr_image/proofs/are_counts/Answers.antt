-- `fdr_image::are_counts`: the tests in the order of the definition.
use Rattle.std.proofs.Common.{arith}
use Rattle.std.proofs.lemmas.Grind.{common_steps}
use Rattle.fdr_image.specs.Walk.{counts_right}
use Rattle.fdr_image.proofs.are_counts.Goals as goal

pub returns-then-contains : goal.returns-then-contains
unfolding counts_right
returns-then-contains c = grind (arith, common_steps)

pub returns-else-contains : goal.returns-else-contains
unfolding counts_right
returns-else-contains c = grind (arith, common_steps)
