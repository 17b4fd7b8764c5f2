use Rattle.std.proofs.Common.{rules, tests, arith}
use Rattle.std.proofs.lemmas.Bool.Decides.{nat_tests}
use Rattle.task.specs.Walk.{counts_right}
use Rattle.task.proofs.are_counts.Goals as goal

pub returns-then-atoms-le-MOST_ATOMS : goal.returns-then-atoms-le-MOST_ATOMS
unfolding counts_right
returns-then-atoms-le-MOST_ATOMS c = search (rules, tests)

pub returns-else-atoms-le-MOST_ATOMS : goal.returns-else-atoms-le-MOST_ATOMS
unfolding counts_right
returns-else-atoms-le-MOST_ATOMS c = grind (arith, nat_tests)
