-- `fdr_image::atom::rank_of`: the words of the atom are its variable and its value.
use Rattle.std.proofs.Common.{arith, ◌≡◌, ◌+◌, ◌*◌, ◌<◌, length, get_or, sym, ◌∙◌}
use Rattle.definitions.specs.FdrImage.{places_in}
use Rattle.fdr_image.proofs.Pairs.{places_length, place_variable, place_value}
use Rattle.fdr_image.proofs.Ranks.{rank_at, rank_low}
use Rattle.fdr_image.proofs.atom.rank_of.Goals as goal

pub variable-requires : goal.variable-requires
variable-requires c = omega (arith, places_length c.args.atoms.now)

pub bounds-starts-variable : goal.bounds-starts-variable
bounds-starts-variable c =
    let w = c.args.atoms.now in
    let in_places : c.args.atom < length (places_in w) = omega (arith, places_length w) in
    omega (arith, c.variable.ensures.0, place_variable w _ in_places, c.requires.0.variable c.args.atom c.requires.1, c.requires.0.starts)

pub value-requires : goal.value-requires
value-requires c = omega (arith, places_length c.args.atoms.now)

pub returns : goal.returns
returns c =
    let w = c.args.atoms.now in
    let in_places : c.args.atom < length (places_in w) = omega (arith, places_length w) in
    let v : c.variable.result ≡ get_or w (2 * c.args.atom) 0 = c.variable.ensures.0 ∙ sym (place_variable w _ in_places) in
    let x : c.value.result ≡ get_or w (2 * c.args.atom + 1) 0 = c.value.ensures.0 ∙ sym (place_value w _ in_places) in
    (rank_at _ w _ _ _ _ c.requires.1 v x c.wide.ensures.0, rank_low _ _ c.requires.0 _ _ _ _ c.requires.1 v x c.wide.ensures.0)
