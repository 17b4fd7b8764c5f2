-- `fdr_image::atom::are_placed`: `all` over the pairs of words tests the places that they are.
use Rattle.std.proofs.Common.{rules}
use Rattle.definitions.specs.FdrImage.{domains_in, place_right}
use Rattle.definitions.proofs.Chains.{all_of}
use Rattle.fdr_image.proofs.PairChains.{places_made}
use Rattle.fdr_image.proofs.atom.are_placed.Goals as goal

pub returns : goal.returns
unfolding place_right
returns c =
    all_of (place_right (domains_in c.args.domains.now)) _ _ c.all.ensures.ran
    (places_made c.args.atoms.now c.chunks_exact.ensures.rest c.chunks_exact.ensures.size) (λ x b q k. search rules)
