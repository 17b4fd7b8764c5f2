-- `dimacs::line::write_row`: the next literal and its space are written, or 0 and the line's end.
use Rattle.std.proofs.Common.{List, ℕ, [], ◌∷◌, ◌++◌, ◌+◌, ◌<◌, ◌≤◌, length, get_or}
use Rattle.definitions.specs.Dimacs.{literal_word}
use Rattle.writing.specs.Writing.{Writing}
use Rattle.writing.proofs.Writes.{write_start, write_same, write_part, write_last, part_room, word_room, write_room}
use Rattle.dimacs.specs.Write.{row_line}
use Rattle.dimacs.proofs.Parts.{literals_from, row_start, row_next, row_end}
use Rattle.dimacs.proofs.line.write_row.Goals as goal

-- what is left: literal i is the next, or there is none
module _ {old out : List ℕ} {at to : ℕ} (f : List ℕ) (i : ℕ) (w : Writing old at (row_line f) out to (literals_from i f)) where
  field : i < length f → Writing old at (row_line f) out to (literal_word (get_or f i 0) ++ (32 ∷ literals_from (i + 1) f))
  field h = write_same (row_next f i h) w

  end : length f ≤ i → Writing old at (row_line f) out to (48 ∷ 10 ∷ [])
  end h = write_same (row_end f i h) w

pub loop-l-init : goal.loop-l-init
loop-l-init c = write_same (row_start _) write_start

pub write_literal-to-requires : goal.write_literal-to-requires
write_literal-to-requires c =
    let f = c.args.literals.now in
    part_room (literal_word (get_or f c.loop-l.l-index 0)) _ (field f c.loop-l.l-index c.loop-l.invariant c.loop-l-test.true) c.requires

pub byte-to-requires : goal.byte-to-requires
byte-to-requires c =
    word_room (write_part (field c.args.literals.now c.loop-l.l-index c.loop-l.invariant c.loop-l-test.true) c.write_literal-to.ensures) c.requires

pub loop-l-preserved : goal.loop-l-preserved
loop-l-preserved c =
    write_part (write_part (field c.args.literals.now c.loop-l.l-index c.loop-l.invariant c.loop-l-test.true) c.write_literal-to.ensures)
    c.byte-to.ensures

pub bytes-requires : goal.bytes-requires
bytes-requires c = write_room (end c.args.literals.now c.loop-l.l-index c.loop-l.invariant c.loop-l-test.false) c.requires

pub returns : goal.returns
returns c = write_last (end c.args.literals.now c.loop-l.l-index c.loop-l.invariant c.loop-l-test.false) c.bytes.ensures
