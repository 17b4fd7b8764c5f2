-- The questions of a synthesis before its first set. Assumes nothing.
use Rattle.std.specs.Prelude.{Bool, true, ◌&&◌, List, ◌≡◌, ℕ, leb}
use Rattle.definitions.specs.Clauses.{width}
use Rattle.definitions.specs.Marks.{mark_bytes}
use Rattle.task.specs.Reads.{task_of, Reads}

-- question 12
abbrev pub limits_right : ℕ → ℕ → Bool
limits_right n limit = leb 1 n && leb n width && leb 1 limit && leb limit 65535

-- question 13
abbrev pub buffers_right : ℕ → ℕ → ℕ → ℕ → Bool
buffers_right atoms words work marks = leb (mark_bytes atoms) marks && leb words work

-- questions 1 to 7, 12 and 13 are answered yes
pub record Asked (w : List ℕ) (n limit words work marks : ℕ) : Type 0 where
  pub task : Reads w
  pub limits : limits_right n limit ≡ true
  pub buffers : buffers_right (task_of w).atoms words work marks ≡ true
