-- `cover::none::lies_in`: each literal has a place, so it can be asked; the answers are those of `in_group`.
use Rattle.std.proofs.Common.{◌<◌, length, rules, arith}
use Rattle.std.proofs.lemmas.Grind.{get_or_default_zero}
use Rattle.std.proofs.lemmas.Iterator.{YieldsList-from_slice}
use Rattle.std.proofs.lemmas.Iterator.Adapters.{serves_from_places}
use Rattle.definitions.proofs.LiteralLaws.{low_at}
use Rattle.definitions.proofs.Chains.{all_of}
use Rattle.cover.specs.None.{in_group, lies_in}
use Rattle.cover.proofs.none.lies_in.Goals as goal

pub all-requires-clause-callable : goal.all-requires-clause-callable
all-requires-clause-callable c =
    serves_from_places (YieldsList-from_slice c.args.literals.now cc) (λ x q k. search rules) (λ x k inside at.
    let zero = get_or_default_zero c.args.literals.now k x.now inside in
    let low : x.now < length c.args.places.now = omega (arith, low_at _ c.args.literals.now k c.requires inside) in
    search (rules, low))

pub returns : goal.returns
unfolding lies_in
returns c = all_of (in_group c.args.places.now c.args.group) _ _ c.all.ensures.ran (YieldsList-from_slice c.args.literals.now cc) (λ x b q k. search rules)
