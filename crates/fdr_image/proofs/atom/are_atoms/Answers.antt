-- `fdr_image::atom::are_atoms`: the tests in the order of the definition; the places are as many as the pairs of words.
use Rattle.std.proofs.Common.{arith}
use Rattle.std.proofs.lemmas.Grind.{common_steps}
use Rattle.fdr_image.specs.Walk.{atoms_right}
use Rattle.fdr_image.proofs.Pairs.{places_length}
use Rattle.fdr_image.proofs.atom.are_atoms.Goals as goal

pub are_given_once-requires : goal.are_given_once-requires
are_given_once-requires c =
    record {
      variables = c.requires;
      atoms = grind (arith, common_steps, places_length c.args.atoms.now);
      right = grind (arith, common_steps);
    }

pub returns-then-are_placed : goal.returns-then-are_placed
unfolding atoms_right
returns-then-are_placed c = grind (arith, common_steps, places_length c.args.atoms.now)

pub returns-else-are_placed : goal.returns-else-are_placed
unfolding atoms_right
returns-else-are_placed c = grind (arith, common_steps, places_length c.args.atoms.now)
