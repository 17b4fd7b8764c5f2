-- `fdr::truth::all_true`: `all` over the pairs of words tests the literals that they are.
use Rattle.std.proofs.Common.{rules}
use Rattle.definitions.specs.Fdr.{fdr_true_in, fdr_all_true}
use Rattle.definitions.proofs.Chains.{all_of}
use Rattle.fdr_image.proofs.PairChains.{literals_made}
use Rattle.fdr.proofs.truth.all_true.Goals as goal

pub returns : goal.returns
unfolding fdr_all_true
returns c =
    all_of (fdr_true_in c.args.state.now) _ _ c.all.ensures.ran
    (literals_made c.args.literals.now c.chunks_exact.ensures.rest c.chunks_exact.ensures.size) (λ x b q k. search rules)
