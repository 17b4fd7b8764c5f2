-- `literal::Literal::is_positive`: whether the code is even. Assumes nothing.
use Rattle.definitions.specs.Literal.{positive}
use borrow.Author.Rules.{rules}
use Rattle.literal.proofs.Literal.is_positive.Statement.{statement}
use Rattle.literal.proofs.Literal.is_positive.Tie as tie

returns : tie.Need-returns
unfolding positive
returns c = search rules

pub is_positive_spec : {M : Type 1} → statement M
is_positive_spec = tie.close (tie.spec
    returns)
