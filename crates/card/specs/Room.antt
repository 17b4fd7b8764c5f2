-- Room for an input, a synthesis and a text. Assumes nothing.
use Rattle.std.specs.Prelude.{◌≡◌, List, ℕ, ◌+◌, ◌*◌, ◌≤◌, length}
use Rattle.definitions.specs.Literal.{most_atoms}
use Rattle.definitions.specs.Marks.{mark_bytes}
use Rattle.definitions.specs.Image.{most_image}
use Rattle.definitions.specs.Clauses.{width, most_rows}

-- the longest text has a line of at most 6 bytes for each literal and one more for each of the most rows, and
-- of 5 bytes for each atom and 6 more for each group; the lines of numbers and a refusal need at most 128
unfoldable pub most_text : ℕ
most_text = (6 * width + 1) * most_rows + 11 * most_atoms + 128

-- the most words of an input: n, limit and the longest image
abbrev pub most_words : ℕ
most_words = 2 + most_image

-- buffers for the most rows, twice, for marks of the most literals and for the longest text
pub record Buffers (cs ws ms out : List ℕ) : Type 0 where
  pub rows : length cs ≡ width * most_rows
  pub work : length ws ≡ width * most_rows
  pub marks : length ms ≡ mark_bytes most_atoms
  pub text : most_text ≤ length out
