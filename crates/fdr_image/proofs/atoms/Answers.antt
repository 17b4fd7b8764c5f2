-- `fdr_image::atoms`: the places are as many as the pairs of words.
use Rattle.std.proofs.Common.{arith, length, ap, sym, ◌∙◌}
use Rattle.fdr_image.proofs.Pairs.{places_length}
use Rattle.fdr_image.proofs.Reading.{few_atoms}
use Rattle.fdr_image.proofs.atoms.Goals as goal

pub returns : goal.returns
returns c = (
  sym (places_length c.places.result.now) ∙ ap length c.places.ensures,
  omega (arith, few_atoms _ c.requires, places_length c.places.result.now, ap length c.places.ensures),
)
