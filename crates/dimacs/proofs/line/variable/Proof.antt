-- `dimacs::line::variable`: an atom is a word, so that one more does not wrap.
use native.Mathlib.Omega.{arith}
use Rattle.dimacs.proofs.Parts.{atom_low}
use borrow.Author.Rules.{rules}
use Rattle.dimacs.proofs.line.variable.Statement.{statement}
use Rattle.dimacs.proofs.line.variable.Tie as tie

atom-requires : tie.Need-atom-requires
atom-requires c κs = search rules

add-result : tie.Need-overflow_add-result
add-result c = omega (arith, atom_low c.args.l.code, c.atom.ensures)

returns : tie.Need-returns
returns c = search rules

pub variable_spec : {M : Type 1} → statement M
variable_spec = tie.close (tie.spec
    atom-requires
    add-result
    returns)
