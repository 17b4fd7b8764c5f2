-- `fdr_image::block::is_whole`: the four words of the row's head, then its conditions.
use Rattle.std.proofs.Common.{◌∙◌}
use borrow.Author.Tests.{lt-leb}
use Rattle.fdr_image.proofs.RowLaws.{whole_short, whole_rest}
use Rattle.fdr_image.proofs.block.is_whole.Goals as goal

pub returns-then-block-at-ge4 : goal.returns-then-block-at-ge4
returns-then-block-at-ge4 c = whole_rest _ _ _ c.wide.ensures.0 c.requires c.if-block-at-ge4.true

pub returns-else-block-at-ge4 : goal.returns-else-block-at-ge4
returns-else-block-at-ge4 c = lt-leb _ _ c.if-block-at-ge4.false ∙ whole_short _ _ c.requires c.if-block-at-ge4.false
