use Rattle.std.proofs.Common.{arith}
use Rattle.std.proofs.lemmas.Bool.Decides.{nat_tests}
use Rattle.agreement.specs.Same.{same_refusal}
use Rattle.agreement.proofs.same.refusals.Goals as goal

pub returns-then-a-b : goal.returns-then-a-b
unfolding same_refusal
returns-then-a-b c = grind (arith, nat_tests)

pub returns-else-a-b : goal.returns-else-a-b
unfolding same_refusal
returns-else-a-b c = grind (arith, nat_tests)
