-- The directory of an image, by the lengths of its parts. Assumes nothing.
use Rattle.std.specs.Prelude.{List, [], ◌∷◌, ℕ, ◌+◌, ◌*◌, ◌≤◌, ◌<◌, length}

unfoldable pub sum : List ℕ → ℕ
sum [] = 0
sum (x ∷ xs) = x + sum xs

-- the pairs (offset, length) of parts of these lengths that begin at an offset
unfoldable pub pairs_of : ℕ → List ℕ → List ℕ
pairs_of at [] = []
pairs_of at (l ∷ ls) = at ∷ l ∷ pairs_of (at + l) ls

-- two numbers, and the pairs of parts that begin right after the pairs
unfoldable pub directory_of : ℕ → ℕ → List ℕ → List ℕ
directory_of first second lengths = first ∷ second ∷ pairs_of (2 + 2 * length lengths) lengths

-- the number of words of an image with parts of these lengths
unfoldable pub size_of : List ℕ → ℕ
size_of lengths = 2 + 2 * length lengths + sum lengths

-- two words, and the lengths of an image's parts, whose pairs find room in the target
pub record DirectoryGiven (first second : ℕ) (lengths target : List ℕ) : Type 0 where
  pub first_word : first < 65536
  pub second_word : second < 65536
  pub offsets : size_of lengths < 65536
  pub room : 2 + 2 * length lengths ≤ length target
