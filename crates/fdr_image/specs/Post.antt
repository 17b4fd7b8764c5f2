-- What the accessors of an image and of a block ensure. Assumes nothing.
use Rattle.std.specs.Prelude.{ℕ, ◌+◌, ◌-◌, ◌*◌, ◌/◌, ◌≤◌, ◌<◌, ◌≡◌, Bool, true, List, ◌∷◌, eqb, length, get_or, take, drop}
use Rattle.definitions.specs.Literal.{most_atoms}
use Rattle.definitions.specs.Groups.{Domain, Place}
use Rattle.definitions.specs.Fdr.{FdrOperator, FdrTask}
use Rattle.definitions.specs.Image.{directory}
use Rattle.definitions.specs.Lists.{all}
use Rattle.definitions.specs.FdrImage.{domains_in, literals_in, place_right, fdr_operator_right}
use Rattle.definitions.specs.FdrStep.{no_fdr_operator}
use Rattle.fdr_image.specs.Walk.{row, block_parses, operator_in, parses_at, rows_at, values_before, counts_right}

-- the ranks at which the variables' values begin were put into s, and r says whether there are `atoms` values in all
pub record Started (D : List Domain) (atoms : ℕ) (s : List ℕ) (r : Bool) : Type 0 where
  pub all_values : r ≡ eqb (values_before D (length D)) atoms
  pub begin : r ≡ true → (v : ℕ) → v < length D → get_or s v 0 ≡ values_before D v

-- the ranks of the variables' first values in s lead each atom to a rank of which there is a mark
pub record Ranked (a s : List ℕ) : Type 0 where
  pub starts : length s ≡ most_atoms
  pub variable : (i : ℕ) → i < length a / 2 → get_or a (2 * i) 0 < most_atoms
  pub rank : (i : ℕ) → i < length a / 2 → get_or s (get_or a (2 * i) 0) 0 + get_or a (2 * i + 1) 0 < most_atoms

-- few variables and atoms, and all atoms have atom values
pub record AllPlaced (D : List Domain) (P : List Place) : Type 0 where
  pub variables : length D ≤ most_atoms
  pub atoms : length P ≤ most_atoms
  pub right : all (place_right D) P ≡ true

-- what `put_starts` asks: few variables and atoms, and a start for each variable
pub record Starts (D : List Domain) (s : List ℕ) (atoms : ℕ) : Type 0 where
  pub variables : length D ≤ most_atoms
  pub size : length s ≡ most_atoms
  pub few : atoms ≤ most_atoms

-- an image with right counts and a right directory
pub record Laid (w : List ℕ) : Type 0 where
  pub counts : counts_right w ≡ true
  pub directory : directory w (get_or w 1 0 + 4) ≡ true

-- besides, its domains, as words
pub record LaidOver (d w : List ℕ) : Type 0 where
  pub laid : Laid w
  pub few : length (domains_in d) ≤ most_atoms

-- b is the block of operator i of t
pub record BlockGiven (b : List ℕ) (t : FdrTask) (i : ℕ) : Type 0 where
  pub parses : block_parses b ≡ true
  pub operator : operator_in b ≡ get_or t.operators i no_fdr_operator
  pub right : fdr_operator_right t.domains (operator_in b) ≡ true

-- the start of a block that holds operator o: its precondition ends at `end`, its k rows begin at end + 1
pub record BlockRead (b : List ℕ) (o : FdrOperator) (end k : ℕ) : Type 0 where
  pub low : 1 ≤ end
  pub high : end + 1 ≤ length b
  pub precondition : literals_in (take (end - 1) (drop 1 b)) ≡ o.precondition
  pub parses : parses_at b (end + 1) k ≡ true
  pub rows : rows_at b (end + 1) k ≡ o.rows

-- the words of a row at p: its conditions stand from `from` to `end`
pub record RowAt (b : List ℕ) (p kind variable value from end : ℕ) : Type 0 where
  pub kind_is : kind ≡ get_or b p 0
  pub variable_is : variable ≡ get_or b (p + 1) 0
  pub value_is : value ≡ get_or b (p + 2) 0
  pub from_is : from ≡ p + 4
  pub end_is : end ≡ p + 4 + 2 * get_or b (p + 3) 0
  pub high : end ≤ length b
  pub word : value < 65536

-- a row was read at p, with k left: its conditions stand from `from` to `end`, where the next row begins
pub record RowRead (b : List ℕ) (p k kind variable value from end : ℕ) : Type 0 where
  pub low : from ≤ end
  pub high : end ≤ length b
  pub word : value < 65536
  pub next : parses_at b end (k - 1) ≡ true
  pub row : rows_at b p k ≡ row kind variable value (literals_in (take (end - from) (drop from b))) ∷ rows_at b end (k - 1)
