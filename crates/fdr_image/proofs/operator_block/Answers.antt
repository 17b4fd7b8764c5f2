-- `fdr_image::operator_block`: an image that reads has the block of operator i in part i + 4.
use native.Mathlib.Omega.{arith}
use Rattle.fdr_image.proofs.Reading.{image_lies, operators_are, block_given}
use Rattle.fdr_image.proofs.operator_block.Goals as goal

pub overflow_add-i : goal.overflow_add-i
overflow_add-i c = omega (arith, c.requires.1, (operators_are _ c.requires.0).0, (operators_are _ c.requires.0).1)

pub part-requires : goal.part-requires
part-requires c = image_lies _ c.requires.0 _ (omega (arith, c.requires.1, (operators_are _ c.requires.0).0))

pub returns : goal.returns
returns c = block_given _ c.requires.0 _ c.requires.1 _ c.part.ensures
