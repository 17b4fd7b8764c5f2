-- `literal::all_true`: the closure computes the test of one literal.
use Rattle.std.proofs.Common.{rules}
use Rattle.std.proofs.lemmas.Iterator.{YieldsList-from_slice}
use Rattle.definitions.specs.Literal.{true_in, all_true}
use Rattle.definitions.proofs.Chains.{all_of}
use Rattle.literal.proofs.all_true.Goals as goal

pub returns : goal.returns
unfolding all_true
returns c = all_of (true_in c.args.state.now) _ _ c.all.ensures.ran (YieldsList-from_slice c.args.literals.now cc) (λ x b q k. search rules)
