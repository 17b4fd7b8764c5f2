-- `card::write_words`: the text of what the synthesis found in the buffer, or that of its refusal.
use Rattle.std.proofs.Common.{arith, sym}
use lib.Seq.{length-take-le}
use Rattle.definitions.specs.Clauses.{width, most_rows}
use Rattle.writing.proofs.Writes.{wrote_same}
use Rattle.card.proofs.CardText.{words_found, words_refused}
use Rattle.card.proofs.write_words.Goals as goal

pub overflow_mul-end : goal.overflow_mul-end
unfolding width most_rows
overflow_mul-end c =
    let f = words_found _ c.atoms-count.ensures c.requires.1 _ _ _ c.in-Ok.ensures in
    record { fits = omega (arith, f.room, c.synthesize.auto.clauses, c.requires.1.rows) }

pub slice_bounds-write_found-end : goal.slice_bounds-write_found-end
unfolding width
slice_bounds-write_found-end c = (words_found _ c.atoms-count.ensures c.requires.1 _ _ _ c.in-Ok.ensures).room

pub slice_bounds-write_found-end-in-Ok : goal.slice_bounds-write_found-end-in-Ok
unfolding width
slice_bounds-write_found-end-in-Ok c =
    sym (length-take-le _ _ (words_found _ c.atoms-count.ensures c.requires.1 _ _ _ c.in-Ok.ensures).room)

pub write_found-requires : goal.write_found-requires
unfolding width
write_found-requires c =
    let f = words_found _ c.atoms-count.ensures c.requires.1 _ _ _ c.in-Ok.ensures in
    (f.read, f.few, c.requires.1.text)

pub returns-in-Ok : goal.returns-in-Ok
unfolding width
returns-in-Ok c = wrote_same (words_found _ c.atoms-count.ensures c.requires.1 _ _ _ c.in-Ok.ensures).text c.write_found.ensures

pub returns-in-Err : goal.returns-in-Err
returns-in-Err c = wrote_same (words_refused _ c.atoms-count.ensures c.requires.1 _ _ c.in-Err.ensures) c.write_refused.ensures
