-- `all` over the pairs of words tests the literals that they are.
use Rattle.std.proofs.Common.{rules}
use Rattle.definitions.proofs.Chains.{all_of}
use Rattle.definitions.specs.FdrImage.{domains_in, fdr_literal_right}
use Rattle.fdr_image.proofs.PairChains.{literals_made}
use Rattle.fdr_image.proofs.domain.are_literals.Goals as goal

pub returns : goal.returns
unfolding fdr_literal_right
returns c = all_of (fdr_literal_right (domains_in c.args.domains.now)) _ _ c.all.ensures.ran
    (literals_made c.args.words.now c.chunks_exact.ensures.rest c.chunks_exact.ensures.size) (λ x b q k. search rules)
