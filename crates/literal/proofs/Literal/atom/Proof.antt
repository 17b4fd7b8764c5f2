-- `literal::Literal::atom`: half the code. Assumes nothing.
use Rattle.definitions.specs.Literal.{atom}
use borrow.Author.Rules.{rules}
use Rattle.literal.proofs.Literal.atom.Statement.{statement}
use Rattle.literal.proofs.Literal.atom.Tie as tie

wide-requires : tie.Need-wide-requires
wide-requires c κs = search rules

returns : tie.Need-returns
unfolding atom
returns c = c.wide.ensures.0

pub atom_spec : {M : Type 1} → statement M
atom_spec = tie.close (tie.spec
    wide-requires
    returns)
