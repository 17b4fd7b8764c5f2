use Rattle.definitions.specs.Clauses.{width, most_rows}
use Rattle.card.specs.Room.{most_text}
use native.Mathlib.Omega.{arith}
use Rattle.card.proofs.CardText.{card_front}
use Rattle.card.proofs.card_text.Statement.{statement}
use Rattle.card.proofs.card_text.Tie as tie

write-input-requires : tie.Need-write_input-requires
unfolding most_text width most_rows
write-input-requires c κs = let g = c.before.before.well_formed.1.0 in omega arith

returns : tie.Need-returns
unfolding most_text width most_rows
returns c = let g = c.before.before.before.well_formed.1.0 in card_front _ _ _ _ (omega arith) c.write_input.ensures

pub card_text_spec : {M : Type 1} → statement M
card_text_spec = tie.close (tie.spec
    write-input-requires
    returns)
