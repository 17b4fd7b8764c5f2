-- `reencoding::parts::block_size`: an operator has the size of its block.
use native.Mathlib.Omega.{arith}
use Rattle.task.proofs.BlockSizes.{block_some, block_most}
use Rattle.reencoding.proofs.PartLaws.{block_words}
use borrow.Author.Rules.{rules}
use Rattle.reencoding.proofs.parts.block_size.Statement.{statement}
use Rattle.reencoding.proofs.parts.block_size.Tie as tie

operator-block-requires : tie.Need-operator_block-block-requires
operator-block-requires c κs = search rules

mul-result : tie.Need-overflow_mul-result
mul-result c = search rules

sub-result : tie.Need-overflow_sub-result
sub-result c =
    let s = c.before.before in
    omega (arith, block_some _ s.requires.0 _ s.requires.1 _ c.operator_block-block.ensures)

returns : tie.Need-returns
returns c =
    let s = c.before.before in
    let g = c.operator_block-block.ensures in
    (block_words _ s.requires.0 _ s.requires.1 _ g, omega (arith, block_most _ s.requires.0 _ s.requires.1 _ g))

pub block_size_spec : {M : Type 1} → statement M
block_size_spec = tie.close (tie.spec
    operator-block-requires
    mul-result
    sub-result
    returns)
