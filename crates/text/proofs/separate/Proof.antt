use native.Mathlib.Omega.{arith}
use mathlib.Core.Path.{ap}
use lib.ListN.{length}
use Rattle.writing.proofs.Writes.{wrote_same, wrote_nothing}
use Rattle.text.proofs.Lines.{separator_first, separator_next}
use borrow.Author.Rules.{rules}
use Rattle.text.proofs.separate.Statement.{statement}
use Rattle.text.proofs.separate.Tie as tie

-- where the field is not the first
abbrev start : tie.Else-i-eq0 → tie.Start
start c = c.before.before

abbrev next : tie.After-byte → tie.Else-i-eq0
next c = c.before.before

returns : tie.Need-returns-then-i-eq0
returns c = wrote_nothing (separator_first _ c.if-i-eq0.true)

byte-requires : tie.Need-byte-requires
byte-requires c κs =
    let e = c.before in
    let p = (start e).requires in
    let one = ap length (separator_next (start e).args.i e.if-i-eq0.false) in
    omega arith

same_length : tie.Need-shape_of-out
same_length c = search rules

returns-2 : tie.Need-returns
returns-2 c =
    let b = c.before.before in
    wrote_same (separator_next (start (next b)).args.i (next b).if-i-eq0.false) b.byte.ensures

pub separate_spec : {M : Type 1} → statement M
separate_spec = tie.close (tie.spec
    returns
    byte-requires
    same_length
    returns-2)
