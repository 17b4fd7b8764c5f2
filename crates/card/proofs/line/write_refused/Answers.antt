-- `card::line::write_refused`: the word and the number, the first place, the second place, the line's end.
use Rattle.std.proofs.Common.{◌∷◌, ◌++◌}
use Rattle.definitions.specs.Text.{decimal}
use Rattle.definitions.specs.Card.{refused_word}
use Rattle.answer.specs.Answer.{refusal_at}
use Rattle.writing.proofs.Writes.{write_last, part_room, word_room}
use Rattle.card.proofs.LineLaws.{refusal_begun, first_left, second_left, refusal_end}
use Rattle.card.proofs.line.write_refused.Goals as goal

pub write_named-first-requires : goal.write_named-first-requires
unfolding refused_word
write_named-first-requires c =
    part_room (refused_word ++ (32 ∷ decimal c.wide.result)) _
    (refusal_begun (refusal_at c.args.number c.args.i c.args.j) _ c.wide.ensures.0) c.requires

pub write_number-second-requires : goal.write_number-second-requires
unfolding refused_word
write_number-second-requires c =
    part_room (32 ∷ decimal c.args.i) _
    (first_left (refusal_at c.args.number c.args.i c.args.j) _ c.wide.ensures.0 c.write_named-first.ensures) c.requires

pub write_number-end-requires : goal.write_number-end-requires
unfolding refused_word
write_number-end-requires c =
    let left = second_left (refusal_at c.args.number c.args.i c.args.j) _ c.wide.ensures.0 c.write_named-first.ensures c.write_number-second.ensures in
    part_room (32 ∷ decimal c.args.j) _ left c.requires

pub byte-requires : goal.byte-requires
unfolding refused_word
byte-requires c =
    let left = refusal_end (refusal_at c.args.number c.args.i c.args.j) _ c.wide.ensures.0 c.write_named-first.ensures c.write_number-second.ensures in
    word_room (left c.write_number-end.ensures) c.requires

pub returns : goal.returns
unfolding refused_word
returns c =
    let left = refusal_end (refusal_at c.args.number c.args.i c.args.j) _ c.wide.ensures.0 c.write_named-first.ensures c.write_number-second.ensures in
    write_last (left c.write_number-end.ensures) c.byte.ensures
