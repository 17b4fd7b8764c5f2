use mathlib.Core.Path.{sym, ◌∙◌}
use Rattle.card.proofs.TextLaws.{sign_plus, sign_minus}
use borrow.Author.Rules.{rules}
use Rattle.card.proofs.line.sign.Statement.{statement}
use Rattle.card.proofs.line.sign.Tie as tie

is-positive-requires : tie.Need-is_positive-requires
is-positive-requires c κs = search rules

returns : tie.Need-returns-then-is_positive
returns c = sign_plus _ (sym c.is_positive.ensures ∙ c.if-is_positive.true)

returns-2 : tie.Need-returns-else-is_positive
returns-2 c = sign_minus _ (sym c.is_positive.ensures ∙ c.if-is_positive.false)

pub sign_spec : {M : Type 1} → statement M
sign_spec = tie.close (tie.spec
    is-positive-requires
    returns
    returns-2)
