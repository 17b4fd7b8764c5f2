-- `dimacs_rows::rows::append`: the row is the last of those that are stored.
use Rattle.std.proofs.Common.{arith}
use Rattle.definitions.specs.Clauses.{width}
use Rattle.dimacs_rows.proofs.RowsLaws.{stored_room, appended}
use Rattle.dimacs_rows.proofs.rows.append.Goals as goal

pub overflow_mul-count : goal.overflow_mul-count
unfolding width
overflow_mul-count c = let p = c.requires in omega (arith, stored_room _ _ p.2 p.3)

pub words-requires : goal.words-requires
unfolding width
words-requires c = let p = c.requires in omega (arith, stored_room _ _ p.2 p.3, p.0.wide)

pub returns : goal.returns
unfolding width
returns c = let p = c.requires in appended _ _ _ _ _ p.0 (stored_room _ _ p.2 p.3) c.words.ensures p.2 p.1
