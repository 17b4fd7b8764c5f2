-- `fdr_image::block::is_block`: the precondition, then the rows.
use Rattle.std.proofs.Common.{rules, ◌∙◌}
use borrow.Author.Tests.{tests}
use Rattle.fdr_image.proofs.RowLaws.{block_empty, block_short, block_off, block_on}
use Rattle.fdr_image.proofs.block.is_block.Goals as goal

pub returns-then-is_empty : goal.returns-then-is_empty
returns-then-is_empty c = block_empty _ c.args.block.now (search (rules, tests))

pub returns-then-block-end : goal.returns-then-block-end
returns-then-block-end c = block_short _ c.args.block.now _ c.wide.ensures.0 c.if-block-end.true

pub returns-then-are_literals : goal.returns-then-are_literals
returns-then-are_literals c =
    c.are_rows.ensures
    ∙ block_on _ c.args.block.now _ c.wide.ensures.0 c.if-block-end.false _ c.are_literals.ensures _ c.wide-then-are_literals.ensures.0 c.if-are_literals.true

pub returns-else-are_literals : goal.returns-else-are_literals
returns-else-are_literals c =
    c.if-are_literals.false ∙ block_off _ c.args.block.now _ c.wide.ensures.0 c.if-block-end.false _ c.are_literals.ensures c.if-are_literals.false
