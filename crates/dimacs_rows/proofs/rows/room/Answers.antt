-- `dimacs_rows::rows::room`: the array has the words of the rows.
use Rattle.std.proofs.Common.{refl}
use Rattle.definitions.specs.Clauses.{width, most_rows}
use Rattle.dimacs_rows.specs.Rows.{most_stored}
use Rattle.dimacs_rows.proofs.rows.room.Goals as goal

pub returns : goal.returns
unfolding width most_rows most_stored
returns c = refl
