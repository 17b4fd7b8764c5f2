-- `literal::is_true`: the byte of the atom, by the literal's sign.
use mathlib.Core.Path.{sym, ◌∙◌}
use Rattle.literal.proofs.Truth.{true_positive, true_negative}
use borrow.Author.Rules.{rules}
use Rattle.literal.proofs.is_true.Statement.{statement}
use Rattle.literal.proofs.is_true.Tie as tie

atom-requires : tie.Need-atom-requires
atom-requires c κs = search rules

value-requires : tie.Need-value-x-requires
value-requires c κs = search rules

is-positive-requires : tie.Need-is_positive-requires
is-positive-requires c κs = search rules

returns : tie.Need-returns-then-is_positive
returns c =
    let read = c.before.before in
    true_positive _ _ _ _ read.before.atom.ensures read.value-x.ensures (sym c.before.is_positive.ensures ∙ c.if-is_positive.true)

returns-2 : tie.Need-returns-else-is_positive
returns-2 c =
    let read = c.before.before in
    true_negative _ _ _ _ read.before.atom.ensures read.value-x.ensures (sym c.before.is_positive.ensures ∙ c.if-is_positive.false)

pub is_true_spec : {M : Type 1} → statement M
is_true_spec = tie.close (tie.spec
    atom-requires
    value-requires
    is-positive-requires
    returns
    returns-2)
