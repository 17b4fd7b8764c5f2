use Rattle.std.proofs.Common.{arith, ◌∙◌, length-take-le}
use Rattle.card_program.proofs.Whole.{card_written, card_taken, on_ok}
use Rattle.card_program.proofs.write_card.Goals as goal

pub returns : goal.returns
returns g c =
    let read = c.in_ok-got.ensures in
    let size = read.size ∙ c.input_room-input.ensures in
    let got = length-take-le c.in_ok-got.got c.read_full.new.buf read.inside in
    let text = c.card_text-end.ensures in
    let taken = card_taken _ _ _ _ text.0 text.1 in
    on_ok c.write_all.result (card_written _ _ _ _ _ _ read.bytes (λ few. read.whole (omega arith)) taken) c.write_all.ensures.bytes
