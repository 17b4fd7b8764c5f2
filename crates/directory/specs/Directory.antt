-- Where a pair of a directory and the part that it names lie. Assumes nothing.
use Rattle.std.specs.Prelude.{ℕ, ◌+◌, ◌*◌, ◌≤◌, ◌<◌, List, length}
use Rattle.definitions.specs.Image.{offset_at, length_at}

-- pair i and its part lie within the image
pub record Lies (w : List ℕ) (i : ℕ) : Type 0 where
  pub pair : 3 + 2 * i < length w
  pub end : offset_at w i + length_at w i ≤ length w
