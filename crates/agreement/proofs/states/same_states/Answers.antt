-- `agreement::states::same_states`: the first test that fails decides.
use Rattle.std.proofs.Common.{rules, arith}
use Rattle.std.proofs.lemmas.Grind.{common_steps}
use Rattle.agreement.specs.Compared.{same_states}
use Rattle.agreement.proofs.states.same_states.Goals as goal

pub returns-then-codes : goal.returns-then-codes
unfolding same_states
returns-then-codes c = grind (arith, common_steps)

pub returns-else-codes : goal.returns-else-codes
unfolding same_states
returns-else-codes c = search rules
