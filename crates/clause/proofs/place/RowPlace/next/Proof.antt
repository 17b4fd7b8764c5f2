use native.Mathlib.Omega.{arith}
use Rattle.definitions.specs.Clauses.{width}
use borrow.Author.Rules.{rules}
use Rattle.clause.proofs.place.RowPlace.next.Statement.{statement}
use Rattle.clause.proofs.place.RowPlace.next.Tie as tie

add-t2 : tie.Need-overflow_add-result
unfolding width
add-t2 c = record { fits = omega (arith, c.requires.position, c.requires.fits) }

add-t3 : tie.Need-overflow_add-result-2
unfolding width
add-t3 c = record { fits = omega (arith, c.requires.fits) }

returns : tie.Need-returns
unfolding width
returns c = search rules

pub next_spec : {M : Type 1} → statement M
next_spec = tie.close (tie.spec
    add-t2
    add-t3
    returns)
