-- An image has few variables, and the walk ends where the target does.
use Rattle.std.proofs.Common.{arith}
use Rattle.fdr_image.proofs.Reading.{variables_are}
use Rattle.coding.proofs.Laws.{written_all}
use Rattle.coding.proofs.found.write.Goals as goal

pub offset_bounds-values-v : goal.offset_bounds-values-v
offset_bounds-values-v c = let few = variables_are _ c.requires.reads in omega (arith, few.0, few.1, c.requires.target)

pub bounds-values-v : goal.bounds-values-v
bounds-values-v c = let few = variables_are _ c.requires.reads in omega (arith, few.0, few.1, c.requires.size, c.requires.target)

pub returns : goal.returns
returns c = written_all _ c.loop-v.invariant _ (omega arith) (omega (arith, c.requires.target))
