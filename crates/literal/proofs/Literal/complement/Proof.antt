-- `literal::Literal::complement`: the code with its last bit exchanged. Assumes nothing.
use Rattle.literal.proofs.LastBit.{flipped}
use Rattle.literal.proofs.Literal.complement.Statement.{statement}
use Rattle.literal.proofs.Literal.complement.Tie as tie

returns : tie.Need-returns
returns c = flipped _

pub complement_spec : {M : Type 1} → statement M
complement_spec = tie.close (tie.spec
    returns)
