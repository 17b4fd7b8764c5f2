-- `dimacs::size::literal_length`: the digits of the variable, and a minus if the literal has one.
use native.Mathlib.Omega.{arith}
use mathlib.Core.Path.{sym, ◌∙◌}
use Rattle.dimacs.proofs.Parts.{digits_few, literal_plain, literal_minus}
use borrow.Author.Rules.{rules}
use Rattle.dimacs.proofs.size.literal_length.Statement.{statement}
use Rattle.dimacs.proofs.size.literal_length.Tie as tie

-- where the sign is known: the digits, and the variable
abbrev counted : tie.After-is_positive → tie.After-decimal_length-digits
counted c = c.before

abbrev named : tie.After-is_positive → tie.After-variable
named c = c.before.before

variable-requires : tie.Need-variable-requires
variable-requires c κs = search rules

decimal-length-requires : tie.Need-decimal_length-digits-requires
decimal-length-requires c κs = search rules

is-positive-requires : tie.Need-is_positive-requires
is-positive-requires c κs = search rules

add-result : tie.Need-overflow_add-result
add-result c = omega (arith, digits_few _ _ (counted c.before).decimal_length-digits.ensures)

returns : tie.Need-returns-then-is_positive
returns c =
    let s = c.before in
    literal_plain _ _ _ (named s).variable.ensures (counted s).decimal_length-digits.ensures (sym s.is_positive.ensures ∙ c.if-is_positive.true)

returns-2 : tie.Need-returns-else-is_positive
returns-2 c =
    let s = c.before in
    literal_minus _ _ _ (named s).variable.ensures (counted s).decimal_length-digits.ensures (sym s.is_positive.ensures ∙ c.if-is_positive.false)

pub literal_length_spec : {M : Type 1} → statement M
literal_length_spec =
    tie.close
    (tie.spec
    variable-requires
    decimal-length-requires
    is-positive-requires
    add-result
    returns
    returns-2)
