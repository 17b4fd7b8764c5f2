-- The word of a literal. Assumes nothing.
use Rattle.std.specs.Prelude.{ℕ, ◌+◌, ◌*◌, Bool, true, false}
use Rattle.std.specs.Bool.{beq}
use Rattle.definitions.specs.Literal.{positive}

-- "atom a true" is 2a, "false" is 2a+1
abbrev pub literal_of : ℕ → Bool → ℕ
literal_of a true = 2 * a
literal_of a false = 2 * a + 1

-- literal l is positive, or negative
unfoldable pub has_sign : Bool → ℕ → Bool
has_sign sign l = beq (positive l) sign
