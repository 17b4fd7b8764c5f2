-- `literal::Literal::has_sign`: whether the literal's own sign is the one asked for. Assumes nothing.
use mathlib.Core.Path.{ap}
use mathlib.Core.Bool.{Bool, beq}
use Rattle.literal.specs.Literal.{has_sign}
use borrow.Author.Rules.{rules}
use Rattle.literal.proofs.Literal.has_sign.Statement.{statement}
use Rattle.literal.proofs.Literal.has_sign.Tie as tie

is-positive-requires : tie.Need-is_positive-requires
is-positive-requires c κs = search rules

returns : tie.Need-returns
unfolding has_sign
returns c = ap (λ (b : Bool). beq b c.before.args.positive) c.is_positive.ensures

pub has_sign_spec : {M : Type 1} → statement M
has_sign_spec = tie.close (tie.spec
    is-positive-requires
    returns)
