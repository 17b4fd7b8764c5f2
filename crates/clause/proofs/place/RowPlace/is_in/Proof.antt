use Rattle.definitions.specs.Clauses.{width}
use Rattle.clause.proofs.RowPlaces.{place_inside, row_left}
use Rattle.clause.proofs.place.RowPlace.is_in.Statement.{statement}
use Rattle.clause.proofs.place.RowPlace.is_in.Tie as tie

sub-result : tie.Need-overflow_sub-result
sub-result c = place_inside c.requires

returns : tie.Need-returns
unfolding width
returns c = row_left c.requires

pub is_in_spec : {M : Type 1} → statement M
is_in_spec = tie.close (tie.spec
    sub-result
    returns)
