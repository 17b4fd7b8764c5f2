-- `card::write_input`: an input's text is that of its words, and other bytes are refused by the first question.
use Rattle.std.proofs.Common.{arith, ◌∙◌, sym, ap}
use lib.Seq.{length-take-le}
use Rattle.definitions.specs.Card.{refused_text}
use Rattle.writing.proofs.Writes.{wrote_same}
use Rattle.card.specs.Text.{words_text}
use Rattle.card.proofs.CardText.{card_short, card_words, words_inside, words_taken}
use Rattle.card.proofs.write_input.Goals as goal

pub returns-then-not-is_input : goal.returns-then-not-is_input
returns-then-not-is_input c =
    wrote_same (card_short _ (sym c.is_input.ensures ∙ c.if-not-is_input.true) ∙ sym (ap refused_text c.from.ensures)) c.write_refused.ensures

pub slice_bounds-words-end : goal.slice_bounds-words-end
slice_bounds-words-end c =
    (words_inside _ _ _ _ (sym c.is_input.ensures ∙ c.if-not-is_input.false) c.word_room-words.ensures c.words_of-end.ensures).1

pub slice_bounds-write_card-end : goal.slice_bounds-write_card-end
slice_bounds-write_card-end c =
    sym (length-take-le _ _ (words_inside _ _ _ _ (sym c.is_input.ensures ∙ c.if-not-is_input.false) c.word_room-words.ensures c.words_of-end.ensures).1)

pub write_card-requires : goal.write_card-requires
write_card-requires c =
    let i = words_inside _ _ _ _ (sym c.is_input.ensures ∙ c.if-not-is_input.false) c.word_room-words.ensures c.words_of-end.ensures in
    (omega (arith, i.0, length-take-le _ _ i.1), c.requires)

pub returns : goal.returns
returns c =
    let yes = sym c.is_input.ensures ∙ c.if-not-is_input.false in
    let taken = words_taken _ _ _ _ yes c.word_room-words.ensures c.words_of-end.ensures in
    wrote_same (card_words _ yes ∙ sym (ap words_text taken)) c.write_card.ensures
