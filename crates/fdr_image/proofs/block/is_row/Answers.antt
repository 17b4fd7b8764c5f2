-- `fdr_image::block::is_row`: the tests in the order of the definition.
use Rattle.std.proofs.Common.{arith}
use Rattle.std.proofs.lemmas.Grind.{common_steps}
use Rattle.definitions.specs.FdrImage.{fdr_row_right}
use Rattle.fdr_image.proofs.block.is_row.Goals as goal

pub returns-then-is_atom_value : goal.returns-then-is_atom_value
unfolding fdr_row_right
returns-then-is_atom_value c = grind (arith, common_steps)

pub returns-else-is_atom_value : goal.returns-else-is_atom_value
unfolding fdr_row_right
returns-else-is_atom_value c = grind (arith, common_steps)
