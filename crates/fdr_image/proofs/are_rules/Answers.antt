-- `fdr_image::are_rules`: the goal, then the operators.
use Rattle.std.proofs.Common.{arith}
use Rattle.std.proofs.lemmas.Grind.{common_steps}
use Rattle.fdr_image.specs.Walk.{rules_right}
use Rattle.fdr_image.proofs.Reading.{few_operators, laid_lies, laid_room}
use Rattle.fdr_image.proofs.are_rules.Goals as goal

pub part-requires : goal.part-requires
part-requires c = laid_lies _ c.requires.laid _ (omega arith)

pub bounds-image-1 : goal.bounds-image-1
bounds-image-1 c = omega (arith, laid_room _ c.requires.laid)

pub are_operators-requires : goal.are_operators-requires
are_operators-requires c = (
  omega (arith, few_operators _ c.requires.laid.counts),
  grind (arith, common_steps),
)

pub returns-then-is_goal : goal.returns-then-is_goal
unfolding rules_right
returns-then-is_goal c = grind (arith, common_steps)

pub returns-else-is_goal : goal.returns-else-is_goal
unfolding rules_right
returns-else-is_goal c = grind (arith, common_steps)
