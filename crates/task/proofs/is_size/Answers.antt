use Rattle.std.proofs.Common.{rules, tests, arith}
use Rattle.std.proofs.lemmas.Bool.Decides.{nat_tests}
use Rattle.task.specs.Walk.{size_right}
use Rattle.task.proofs.is_size.Goals as goal

pub returns-then-image-ge6 : goal.returns-then-image-ge6
unfolding size_right
returns-then-image-ge6 c = search (rules, tests)

pub returns-else-image-ge6 : goal.returns-else-image-ge6
unfolding size_right
returns-else-image-ge6 c = grind (arith, nat_tests)
