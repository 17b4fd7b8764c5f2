-- Where the block is too short, question 6; else its rows decide.
use Rattle.std.proofs.Common.{◌∙◌, ap, arith}
use Rattle.std.proofs.lemmas.Bool.Decides.{nat_tests}
use Rattle.definitions.specs.Answer.{refused}
use Rattle.task.proofs.Blocks.{block_6, block_rest}
use Rattle.task.proofs.block.check.Goals as goal

pub returns-then-is_empty : goal.returns-then-is_empty
returns-then-is_empty c = ap refused c.at.ensures ∙ block_6 _ _ _ (grind (arith, nat_tests, c.if-is_empty.ensures))

pub returns-then-block-end : goal.returns-then-block-end
returns-then-block-end c = ap refused c.at-then-block-end.ensures ∙ block_6 _ _ _ (omega (arith, c.wide-count.ensures.0))

pub returns : goal.returns
returns c =
    block_rest _ _ _ _ _ _ _ c.wide-count.ensures.0 c.if-block-end.false c.is_literal_list-precondition.ensures c.wide-rows.ensures.0
    c.check_rows.ensures
