-- `next_set::test::some_flag`: the test of all flags.
use mathlib.Core.Path.{◌∙◌}
use lib.Dec.{eqb}
use Rattle.definitions.proofs.Chains.{any_listed}
use Rattle.next_set.proofs.test.some_flag.Goals as goal

pub returns : goal.returns
returns c = c.contains.ensures.value ∙ any_listed (λ x. eqb x 1) c.args.flags.now
