use Rattle.std.proofs.Common.{rules, tests, arith}
use Rattle.std.proofs.lemmas.Bool.Decides.{nat_tests}
use Rattle.definitions.specs.Image.{row_right}
use Rattle.task.proofs.block.is_row.Goals as goal

pub returns-then-effect-atoms : goal.returns-then-effect-atoms
unfolding row_right
returns-then-effect-atoms c = search (rules, tests)

pub returns-else-effect-atoms : goal.returns-else-effect-atoms
unfolding row_right
returns-else-effect-atoms c = grind (arith, nat_tests)
