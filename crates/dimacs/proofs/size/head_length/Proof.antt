-- `dimacs::size::head_length`: two numbers, and 8 bytes of the word, the spaces and the end.
use native.Mathlib.Omega.{arith}
use Rattle.dimacs.proofs.Parts.{digits_few, head_bytes_lem}
use borrow.Author.Rules.{rules}
use Rattle.dimacs.proofs.size.head_length.Statement.{statement}
use Rattle.dimacs.proofs.size.head_length.Tie as tie

decimal-length-requires : tie.Need-decimal_length-requires
decimal-length-requires c κs = search rules

add-result : tie.Need-overflow_add-result
add-result c = omega (arith, digits_few _ _ c.decimal_length.ensures)

decimal-length-requires-2 : tie.Need-decimal_length-requires-2
decimal-length-requires-2 c κs = search rules

add-result-2 : tie.Need-overflow_add-result-2
add-result-2 c = omega (arith, digits_few _ _ c.decimal_length.ensures, digits_few _ _ c.decimal_length-2.ensures)

returns : tie.Need-returns
returns c = head_bytes_lem _ _ _ _ c.decimal_length.ensures c.decimal_length-2.ensures

pub head_length_spec : {M : Type 1} → statement M
head_length_spec = tie.close (tie.spec
    decimal-length-requires
    add-result
    decimal-length-requires-2
    add-result-2
    returns)
