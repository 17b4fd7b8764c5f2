use native.Mathlib.Omega.{arith}
use mathlib.Core.Path.{ap}
use lib.ListN.{length}
use Rattle.definitions.specs.Card.{none_word}
use Rattle.writing.proofs.Writes.{wrote_same, wrote_nothing}
use Rattle.card.proofs.LineLaws.{none_omitted_lem, none_there_lem}
use borrow.Author.Rules.{rules}
use Rattle.card.proofs.group.write_none.Statement.{statement}
use Rattle.card.proofs.group.write_none.Tie as tie

-- where none is a value
abbrev start : tie.Else-none-eq0 → tie.Start
start c = c.before.before

abbrev value : tie.After-bytes-arg-2-1 → tie.Else-none-eq0
value c = c.before.before

returns : tie.Need-returns-then-none-eq0
returns c = wrote_nothing (none_omitted_lem _ c.if-none-eq0.true)

bytes-requires : tie.Need-bytes-requires
unfolding none_word
bytes-requires c κs =
    let e = value c.before in
    let there = ap length (none_there_lem (start e).args.none e.if-none-eq0.false) in
    let p = (start e).requires in
    omega arith

same_length : tie.Need-shape_of-out
same_length c = search rules

returns-2 : tie.Need-returns
unfolding none_word
returns-2 c =
    let b = c.before.before in
    let e = value b.before.before in
    wrote_same (none_there_lem (start e).args.none e.if-none-eq0.false) b.bytes.ensures

pub write_none_spec : {M : Type 1} → statement M
write_none_spec =
    tie.close (tie.spec
    returns
    bytes-requires
    same_length
    returns-2)
