-- `RowPlace::row`: the row at the place lies in the words.
use mathlib.Core.Path.{refl}
use native.Mathlib.Omega.{arith}
use Rattle.definitions.specs.Clauses.{width}
use Rattle.clause.proofs.RowLaws.{row_cut}
use Rattle.clause.proofs.RowPlaces.{row_ends}
use Rattle.clause.proofs.place.RowPlace.row.Goals as goal

pub overflow_add-result : goal.overflow_add-result
unfolding width
overflow_add-result c = record { fits = omega (arith, row_ends c.requires) }

pub offset_bounds-clauses-self : goal.offset_bounds-clauses-self
unfolding width
offset_bounds-clauses-self c = omega (arith, row_ends c.requires)

pub slice_bounds-result-end : goal.slice_bounds-result-end
unfolding width
slice_bounds-result-end c = row_ends c.requires

pub returns : goal.returns
unfolding width
returns c = row_cut _ _ _ _ c.requires.position refl
