-- `dimacs::line::write_literal`: the minus, if there is one, and the variable.
use Prim.Native.Nat.{ℕ, ◌+◌}
use mathlib.Core.List.{List}
use Rattle.definitions.specs.Literal.{atom}
use Rattle.definitions.specs.Text.{decimal}
use Rattle.definitions.specs.Dimacs.{literal_word}
use Rattle.writing.proofs.Writes.{wrote_same, wrote_both, first_room, next_room}
use Rattle.dimacs.specs.Write.{minus_of}
use Rattle.dimacs.proofs.Parts.{literal_parts}
use borrow.Author.Rules.{rules}
use Rattle.dimacs.proofs.line.write_literal.Statement.{statement}
use Rattle.dimacs.proofs.line.write_literal.Tie as tie

abbrev code : tie.Start → ℕ
code s = s.args.l.code

abbrev variable : tie.Start → List ℕ
variable s = decimal (atom (code s) + 1)

-- after the minus
abbrev start : tie.After-write_minus-to → tie.Start
start c = c.before.before.before

-- where the variable is known
abbrev lent : tie.After-variable → tie.After-slice_known-2-1
lent c = c.before.before

abbrev signed : tie.After-variable → tie.After-write_minus-to
signed c = (lent c).before.before

write-minus-requires : tie.Need-write_minus-to-requires
write-minus-requires c κs =
    let s = c.before.before in
    first_room (literal_word (code s)) (minus_of (code s)) (variable s) s.args.out.now s.args.at (literal_parts (code s)) s.requires

variable-requires : tie.Need-variable-requires
variable-requires c κs = search rules

write-decimal-requires : tie.Need-write_decimal-requires
write-decimal-requires c κs =
    let m = signed c in
    let s = start m in
    rw c.variable.ensures
    (next_room (literal_word (code s)) (minus_of (code s)) (variable s) s.args.out.now s.args.at (literal_parts (code s)) s.requires
    m.write_minus-to.ensures)

same_length : tie.Need-shape_of-out
same_length c = search rules

returns : tie.Need-returns
returns c =
    let d = c.before.before in
    let v = d.before in
    let m = signed v in
    wrote_same (literal_parts (code (start m))) (wrote_both m.write_minus-to.ensures (rw v.variable.ensures at d.write_decimal.ensures))

pub write_literal_spec : {M : Type 1} → statement M
write_literal_spec = tie.close (tie.spec
    write-minus-requires
    variable-requires
    write-decimal-requires
    same_length
    returns)
