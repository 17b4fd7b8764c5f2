use native.Mathlib.Omega.{arith}
use Rattle.definitions.specs.Clauses.{width}
use borrow.Author.Rules.{rules}
use Rattle.clause.proofs.place.RowPlace.previous.Statement.{statement}
use Rattle.clause.proofs.place.RowPlace.previous.Tie as tie

sub-t2 : tie.Need-overflow_sub-result
sub-t2 c = search rules

sub-t3 : tie.Need-overflow_sub-result-2
unfolding width
sub-t3 c = omega (arith, c.requires.position, c.requires.some_row)

returns : tie.Need-returns
unfolding width
returns c = search rules

pub previous_spec : {M : Type 1} → statement M
previous_spec = tie.close (tie.spec
    sub-t2
    sub-t3
    returns)
