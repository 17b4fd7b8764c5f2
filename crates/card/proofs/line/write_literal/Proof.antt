use mathlib.Core.List.{◌∷◌}
use Rattle.definitions.specs.Literal.{atom}
use Rattle.definitions.specs.Text.{decimal}
use Rattle.definitions.specs.Card.{literal_text}
use Rattle.writing.specs.Writing.{Writing}
use Rattle.writing.proofs.Writes.{write_start, write_same, write_part, write_last, word_room, write_room}
use Rattle.card.proofs.TextLaws.{literal_parts}
use borrow.Author.Rules.{rules}
use Rattle.card.proofs.line.write_literal.Statement.{statement}
use Rattle.card.proofs.line.write_literal.Tie as tie

-- the sign is known: both parts are left
abbrev start : tie.After-sign → tie.Start
start c = c.before.before

both :
    (c : tie.After-sign) → let a = (start c).args in
    Writing a.out.now a.at (literal_text a.l.code) a.out.now a.at (c.sign.result ∷ decimal (atom a.l.code))
both c = write_same (literal_parts (start c).args.l.code c.sign.result c.sign.ensures) write_start

-- the sign is written
abbrev signed : tie.After-byte-to → tie.After-sign
signed c = c.before.before

second :
    (c : tie.After-byte-to) → let a = (start (signed c)).args in
    Writing a.out.now a.at (literal_text a.l.code) c.byte-to.new.target c.byte-to.result (decimal (atom a.l.code))
second c = write_part (both (signed c)) c.byte-to.ensures

-- the atom is known
abbrev back : tie.After-atom → tie.After-slice_known-2-1
back c = c.before.before

abbrev wrote : tie.After-atom → tie.After-byte-to
wrote c = (back c).before.before

sign-requires : tie.Need-sign-requires
sign-requires c κs = search rules

byte-requires : tie.Need-byte-to-requires
byte-requires c κs = word_room (both c.before) (start c.before).requires

atom-requires : tie.Need-atom-requires
atom-requires c κs = search rules

write-decimal-requires : tie.Need-write_decimal-requires
write-decimal-requires c κs =
    let r = write_room (second (wrote c)) (start (signed (wrote c))).requires in
    rw c.atom.ensures r

same_length : tie.Need-shape_of-out
same_length c = search rules

returns : tie.Need-returns
returns c =
    let d = c.before.before in
    let b = wrote d.before in
    write_last (second b) (rw d.atom.ensures at d.write_decimal.ensures)

pub write_literal_spec : {M : Type 1} → statement M
write_literal_spec =
    tie.close
    (tie.spec
    sign-requires
    byte-requires
    atom-requires
    write-decimal-requires
    same_length
    returns)
