-- `dimacs::size::text_length`: the bytes of the header and of the rows.
use native.Mathlib.Omega.{arith}
use Rattle.definitions.specs.Clauses.{width, most_rows}
use Rattle.dimacs.proofs.Parts.{head_size, rows_size_lem, text_bytes}
use borrow.Author.Rules.{rules}
use Rattle.dimacs.proofs.size.text_length.Statement.{statement}
use Rattle.dimacs.proofs.size.text_length.Tie as tie

-- where both are known
abbrev headed : tie.After-rows_length → tie.After-head_length
headed c = c.before

abbrev counted : tie.After-rows_length → tie.After-rows
counted c = c.before.before

abbrev start : tie.After-rows_length → tie.Start
start c = (counted c).before.before

rows-requires : tie.Need-rows-requires
rows-requires c κs = search rules

head-length-requires : tie.Need-head_length-requires
head-length-requires c κs = search rules

rows-length-requires : tie.Need-rows_length-requires
rows-length-requires c κs = search rules

add-result : tie.Need-overflow_add-result
unfolding width most_rows
add-result c =
    let s = start c in
    let h = head_size s.args.atoms (counted c).rows.result in
    let r = rows_size_lem s.args.clauses.now s.requires in
    omega (arith, (headed c).head_length.ensures, c.rows_length.ensures)

returns : tie.Need-returns
returns c = text_bytes _ _ _ _ (start c).args.clauses.now (counted c).rows.ensures (headed c).head_length.ensures c.rows_length.ensures

pub text_length_spec : {M : Type 1} → statement M
text_length_spec = tie.close (tie.spec
    rows-requires
    head-length-requires
    rows-length-requires
    add-result
    returns)
