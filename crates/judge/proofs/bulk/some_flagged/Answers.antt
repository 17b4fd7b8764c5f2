-- `judge::bulk::some_flagged`: the answers of the calls are those of `has`.
use Rattle.std.proofs.Common.{rules}
use Rattle.std.proofs.lemmas.Iterator.{YieldsList-from_slice}
use Rattle.definitions.specs.Closure.{has}
use Rattle.definitions.proofs.Chains.{any_of}
use Rattle.judge.proofs.bulk.some_flagged.Goals as goal

pub returns : goal.returns
returns c = any_of (has c.args.flags.now) _ _ c.any.ensures.ran (YieldsList-from_slice c.args.literals.now cc) (λ x b q k. search rules)
