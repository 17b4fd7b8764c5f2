-- A flag's byte by Rust's conversion, `u8::from(b)`. Assumes nothing.
use Rattle.std.proofs.Common.{◌≡◌, refl, Bool, true, false}
use mir.Val.{bool_byte}
use Rattle.definitions.specs.Closure.{bit}

pub bool_bit : (b : Bool) → bool_byte b ≡ bit b
unfolding bit
bool_bit true = refl
bool_bit false = refl
