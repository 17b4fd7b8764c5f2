-- `fdr_image::block::row`: a row that parses is whole, and is read by its words.
use Rattle.fdr_image.proofs.RowLaws.{row_whole, row_read}
use Rattle.fdr_image.proofs.block.row.Goals as goal

pub row_at-requires : goal.row_at-requires
row_at-requires c = row_whole _ _ _ c.requires.0 c.requires.1

pub returns : goal.returns
returns c = row_read _ _ _ c.requires.0 c.requires.1 _ _ _ _ _ c.row_at.ensures
