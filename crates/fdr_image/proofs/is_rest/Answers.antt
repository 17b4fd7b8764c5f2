-- `fdr_image::is_rest`: the initial values, the atoms, then the goal and the operators.
use Rattle.std.proofs.Common.{arith}
use Rattle.std.proofs.lemmas.Grind.{common_steps}
use Rattle.fdr_image.specs.Walk.{rest_right}
use Rattle.fdr_image.proofs.Reading.{laid_lies}
use Rattle.fdr_image.proofs.is_rest.Goals as goal

pub part-requires : goal.part-requires
part-requires c = laid_lies _ c.requires.laid _ (omega arith)

pub part-requires-then-are_values : goal.part-requires-then-are_values
part-requires-then-are_values c = laid_lies _ c.requires.laid _ (omega arith)

pub returns-then-are_atoms : goal.returns-then-are_atoms
unfolding rest_right
returns-then-are_atoms c = grind (arith, common_steps)

pub returns-else-are_atoms : goal.returns-else-are_atoms
unfolding rest_right
returns-else-are_atoms c = grind (arith, common_steps)
