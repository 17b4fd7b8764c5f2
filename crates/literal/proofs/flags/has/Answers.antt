-- `literal::flags::has`: the byte there is 1, and a place outside has 0.
use Rattle.std.proofs.Common.{arith}
use Rattle.std.proofs.lemmas.Grind.{common_steps}
use Rattle.definitions.specs.Closure.{has}
use Rattle.literal.proofs.flags.has.Goals as goal

pub returns : goal.returns
unfolding has
returns c = grind (arith, common_steps)
