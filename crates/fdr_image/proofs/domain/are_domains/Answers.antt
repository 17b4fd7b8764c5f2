-- `fdr_image::domain::are_domains`: `all` over the pairs of words tests the domains that they are.
use Rattle.std.proofs.Common.{rules, sym, ◌∙◌, leb}
use borrow.Author.Tests.{ne_eqb}
use Rattle.definitions.specs.Groups.{Domain}
use Rattle.definitions.proofs.Chains.{all_of}
use Rattle.fdr_image.proofs.DomainLaws.{domains_off, domains_on}
use Rattle.fdr_image.proofs.PairChains.{domains_made}
use Rattle.fdr_image.proofs.domain.are_domains.Goals as goal

pub returns-then-domains-variables : goal.returns-then-domains-variables
returns-then-domains-variables c =
    all_of (λ (d : Domain). leb d.none 1) _ _ c.all.ensures.ran (domains_made c.args.domains.now c.chunks_exact.ensures.rest c.chunks_exact.ensures.size)
    (λ x b q k. search rules)
    ∙ sym (domains_on _ _ c.if-domains-variables.true)

pub returns-else-domains-variables : goal.returns-else-domains-variables
returns-else-domains-variables c = ne_eqb _ _ c.if-domains-variables.false ∙ domains_off _ _ c.if-domains-variables.false
