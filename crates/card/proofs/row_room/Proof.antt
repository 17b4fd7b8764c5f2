use Rattle.definitions.specs.Clauses.{width, most_rows}
use borrow.Author.Rules.{rules}
use Rattle.card.proofs.row_room.Statement.{statement}
use Rattle.card.proofs.row_room.Tie as tie

returns : tie.Need-returns
unfolding width most_rows
returns c = search rules

pub row_room_spec : {M : Type 1} → statement M
row_room_spec = tie.close (tie.spec
    returns)
