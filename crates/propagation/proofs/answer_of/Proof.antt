use mathlib.Core.Path.{sym, ap}
use Rattle.propagation.specs.Marks.{closing_of}
use Rattle.propagation.proofs.answer_of.Statement.{statement}
use Rattle.propagation.proofs.answer_of.Tie as tie

returns : tie.Need-returns-then-closed
unfolding closing_of
returns c = sym (ap closing_of c.if-closed.true)

returns-2 : tie.Need-returns-else-closed
unfolding closing_of
returns-2 c = sym (ap closing_of c.if-closed.false)

pub answer_of_spec : {M : Type 1} → statement M
answer_of_spec = tie.close (tie.spec
    returns
    returns-2)
