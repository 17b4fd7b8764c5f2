-- `dimacs::line::write_minus`: one byte, or none.
use native.Mathlib.Omega.{arith}
use mathlib.Core.Path.{◌≡◌, ap, sym, ◌∙◌}
use mathlib.Core.List.{[], ◌∷◌}
use lib.ListN.{length}
use Rattle.writing.proofs.Writes.{wrote_same, wrote_nothing}
use Rattle.dimacs.specs.Write.{minus_of}
use Rattle.dimacs.proofs.Parts.{minus_none, minus_one}
use borrow.Author.Rules.{rules}
use Rattle.dimacs.proofs.line.write_minus.Statement.{statement}
use Rattle.dimacs.proofs.line.write_minus.Tie as tie

-- where the literal is that of a false atom
abbrev signed : tie.Else-is_positive → tie.After-is_positive
signed c = c.before

abbrev start : tie.Else-is_positive → tie.Start
start c = (signed c).before.before

minus : (c : tie.Else-is_positive) → minus_of (start c).args.l.code ≡ 45 ∷ []
minus c = minus_one (start c).args.l.code (sym (signed c).is_positive.ensures ∙ c.if-is_positive.false)

abbrev other : tie.After-byte → tie.Else-is_positive
other c = c.before.before

is-positive-requires : tie.Need-is_positive-requires
is-positive-requires c κs = search rules

returns : tie.Need-returns-then-is_positive
returns c = wrote_nothing (minus_none _ (sym c.is_positive.ensures ∙ c.if-is_positive.true))

byte-requires : tie.Need-byte-requires
byte-requires c κs = let e = c.before in let p = (start e).requires in let one = ap length (minus e) in omega arith

same_length : tie.Need-shape_of-out
same_length c = search rules

returns-2 : tie.Need-returns
returns-2 c = let b = c.before.before in wrote_same (minus (other b)) b.byte.ensures

pub write_minus_spec : {M : Type 1} → statement M
write_minus_spec = tie.close (tie.spec
    is-positive-requires
    returns
    byte-requires
    same_length
    returns-2)
