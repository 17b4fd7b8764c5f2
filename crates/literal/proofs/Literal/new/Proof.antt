use Rattle.literal.specs.Literal.{literal_of}
use mathlib.Core.Path.{ap, sym}
use borrow.Author.Rules.{rules}
use Rattle.literal.proofs.Literal.new.Statement.{statement}
use Rattle.literal.proofs.Literal.new.Tie as tie

mul-t5 : tie.Need-overflow_mul-result
mul-t5 c = search rules

mul-t6 : tie.Need-overflow_mul-result-else-truth
mul-t6 c = search rules

add-t7 : tie.Need-overflow_add-result
add-t7 c = search rules

returns : tie.Need-returns-then-truth
returns c = ap (literal_of c.before.args.atom) (sym c.if-truth.true)

returns-2 : tie.Need-returns-else-truth
returns-2 c = ap (literal_of c.before.args.atom) (sym c.if-truth.false)

pub new_spec : {M : Type 1} → statement M
new_spec = tie.close (tie.spec
    mul-t5
    mul-t6
    add-t7
    returns
    returns-2)
