-- Numbers and lines as bytes, in the card's text and in DIMACS. Assumes nothing.
use Rattle.std.specs.Prelude.{List, [], ◌∷◌, ◌++◌, ℕ, zero, suc, ◌+◌, ◌/◌, ◌%◌}

-- the digits of n in front of a text, at most as many as the fuel
unfoldable pub digits : ℕ → ℕ → List ℕ → List ℕ
digits zero n rest = rest
digits (suc k) n rest =
    let text = (48 + n % 10) ∷ rest in
    elim (n / 10) [ zero ↦ text | suc m ↦ digits k (n / 10) text ]

-- a number in decimal, of at most 20 digits
unfoldable pub decimal : ℕ → List ℕ
decimal n = digits 20 n []

-- fields separated by one space; byte 10 ends the line
unfoldable pub line : List (List ℕ) → List ℕ
line [] = 10 ∷ []
line (x ∷ []) = x ++ (10 ∷ [])
line (x ∷ (y ∷ xs)) = x ++ (32 ∷ line (y ∷ xs))
