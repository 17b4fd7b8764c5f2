-- `fdr_image::domain::are_values`: `all` over the values, each beside its domain.
use Rattle.std.proofs.Common.{rules, arith, ◌≡◌, length, ltb, ap, ◌∙◌}
use borrow.Author.Tests.{tests, ne_eqb}
use Rattle.std.proofs.lemmas.Iterator.{YieldsList-from_slice, YieldsList-from_zip}
use Rattle.std.proofs.lemmas.Iterator.Adapters.{serves_from_places}
use Rattle.definitions.specs.FdrImage.{domains_in}
use Rattle.definitions.proofs.Chains.{all_of}
use Rattle.fdr_image.proofs.Pairs.{domains_length}
use Rattle.fdr_image.proofs.PairChains.{domains_made, twos_made, two_zipped}
use Rattle.fdr_image.proofs.DomainLaws.{values_unlike, values_zipped}
use Rattle.fdr_image.proofs.domain.are_values.Goals as goal

pub all-requires-clause-callable : goal.all-requires-clause-callable
all-requires-clause-callable c =
    serves_from_places (YieldsList-from_zip (YieldsList-from_slice c.args.values.now (cc)) (twos_made c.args.domains.now (cc) (cc)))
    (λ x q k. search (rules, tests))
    (λ x k low e. let two : length x.1.now ≡ 2 = ap (λ p. length p.1) e ∙ two_zipped c.args.values.now c.args.domains.now k _ low in search rules)

pub returns-then-values-domains : goal.returns-then-values-domains
returns-then-values-domains c =
    all_of (λ p. ltb p.0 p.1.values) c.all.new.self _ c.all.ensures.ran
    (YieldsList-from_zip (YieldsList-from_slice c.args.values.now (cc)) (domains_made c.args.domains.now (cc) (cc))) (λ x b q k. search rules)
    ∙ values_zipped (domains_in c.args.domains.now) c.args.values.now (omega (arith, domains_length c.args.domains.now))

pub returns-else-values-domains : goal.returns-else-values-domains
returns-else-values-domains c =
    ne_eqb _ _ c.if-values-domains.false ∙ values_unlike (domains_in c.args.domains.now) _ (λ e. c.if-values-domains.false (e ∙ domains_length _))
