-- The mark buffer ("Marks in bits", document 02 §7): a bit for each literal. Assumes nothing.
use Rattle.std.specs.Prelude.{Bool, cond, List, [], ◌∷◌, map, ℕ, zero, suc, ◌+◌, ◌*◌, ◌/◌, ◌%◌, eqb, ltb, get_or}
use Rattle.definitions.specs.Lists.{keep, below}
use Rattle.definitions.specs.Closure.{has, bit}

-- "N/4 bytes, rounded up"
unfoldable pub mark_bytes : ℕ → ℕ
mark_bytes N = (N + 3) / 4

-- bit k of a byte, lowest first
unfoldable pub bit_of : ℕ → ℕ → Bool
bit_of b zero = eqb (b % 2) 1
bit_of b (suc k) = bit_of (b / 2) k

-- the byte with these bits, lowest first
unfoldable pub byte_of : List Bool → ℕ
byte_of [] = 0
byte_of (x ∷ xs) = bit x + 2 * byte_of xs

-- "Literal l is bit l mod 8, lowest first, of byte l/8"
unfoldable pub marked : List ℕ → ℕ → Bool
marked ms l = bit_of (get_or ms (l / 8) 0) (l % 8)

-- byte i of the marks of a set: each literal below 2N marked if the set holds it; "bits beyond stay"
unfoldable pub mark_byte : ℕ → List ℕ → List ℕ → ℕ → ℕ
mark_byte N S ms i =
    byte_of (map (λ k. let l = 8 * i + k in let old = marked ms l in let new = has S l in cond (ltb l (2 * N)) new old) (below 8))

-- the bytes of these marks, for N atoms
unfoldable pub marks_of : ℕ → List ℕ → List ℕ → List ℕ
marks_of N S ms = map (mark_byte N S ms) (below (mark_bytes N))

-- the literals below 2N that are marked, "bits beyond 2N are ignored"
unfoldable pub marked_literals : ℕ → List ℕ → List ℕ
marked_literals N ms = keep (marked ms) (below (2 * N))
