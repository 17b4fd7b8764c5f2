-- What the accessors of an image and of a block ensure. Assumes nothing.
use Rattle.std.specs.Prelude.{ℕ, ◌+◌, ◌-◌, ◌≤◌, ◌<◌, ◌≡◌, true, List, ◌∷◌, length, take, drop}
use Rattle.definitions.specs.Literal.{most_atoms}
use Rattle.definitions.specs.Lists.{all}
use Rattle.definitions.specs.Image.{most_image, most_operators, Row, Operator, Task, rows_size, directory, row_right, operator_right}
use Rattle.definitions.specs.Step.{operator_at}
use Rattle.task.specs.Walk.{row, block_parses, operator_in, parses_at, rows_at}

-- an image of so many atoms and operators, with a right directory
pub record Laid (w : List ℕ) (atoms operators : ℕ) : Type 0 where
  pub few : atoms ≤ most_atoms
  pub few_operators : operators ≤ most_operators
  pub directory : directory w (operators + 2) ≡ true

-- b is the block of operator i of t
pub record BlockGiven (b : List ℕ) (t : Task) (i : ℕ) : Type 0 where
  pub parses : block_parses b ≡ true
  pub operator : operator_in b ≡ operator_at t i

-- the start of a block that holds operator o: its precondition ends at `end`, its k rows begin at end + 1
pub record BlockRead (b : List ℕ) (o : Operator) (end k : ℕ) : Type 0 where
  pub low : 1 ≤ end
  pub high : end + 1 ≤ length b
  pub precondition : take (end - 1) (drop 1 b) ≡ o.precondition
  pub parses : parses_at b (end + 1) k ≡ true
  pub rows : rows_at b (end + 1) k ≡ o.rows

-- a row was read at p, with k left: its effect, its conditions from `from` to `end`, where the next row begins
pub record RowRead (b : List ℕ) (p k effect from end : ℕ) : Type 0 where
  pub low : from ≤ end
  pub high : end ≤ length b
  pub on : p ≤ end
  pub word : effect < 65536
  pub next : parses_at b end (k - 1) ≡ true
  pub row : rows_at b p k ≡ row effect (take (end - from) (drop from b)) ∷ rows_at b end (k - 1)

-- rows over N atoms, of a block that is no longer than an image
pub record RowsOver (N : ℕ) (rs : List Row) : Type 0 where
  pub right : all (row_right N) rs ≡ true
  pub short : rows_size rs ≤ most_image

-- and the operator of such a block
pub record OperatorOver (N : ℕ) (b : List ℕ) : Type 0 where
  pub parses : block_parses b ≡ true
  pub right : operator_right N (operator_in b) ≡ true
  pub short : length b ≤ most_image
