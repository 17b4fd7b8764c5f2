-- `literal::flags::byte`: the byte of each of the two answers.
use mir.Val.{bool_byte}
use Rattle.std.proofs.Common.{Bool, true, false, ◌≡◌, refl, ◌∙◌}
use Rattle.definitions.specs.Closure.{bit}
use Rattle.literal.proofs.flags.byte.Goals as goal

bool_bit : (b : Bool) → bool_byte b ≡ bit b
unfolding bit
bool_bit true = refl
bool_bit false = refl

pub returns : goal.returns
returns c = c.from.ensures ∙ bool_bit c.args.b
