-- The words of the re-encoded image, by the places of the atoms. Assumes nothing.
use Rattle.std.specs.Prelude.{◌≡◌, true, List, [], ◌∷◌, ◌++◌, ℕ, ◌+◌, ◌*◌, ◌/◌, ◌%◌, ◌≤◌, ◌<◌, length, get_or}
use Rattle.definitions.specs.Lists.{each}
use Rattle.definitions.specs.Literal.{most_atoms, atom, all_below}
use Rattle.definitions.specs.Image.{Row, Operator}

-- the number of atoms that have places
unfoldable pub atoms_of : List ℕ → ℕ
atoms_of places = length places / 2

unfoldable pub literal_by : List ℕ → ℕ → List ℕ
literal_by places l = get_or places (2 * atom l) 0 ∷ (2 * get_or places (2 * atom l + 1) 0 + l % 2) ∷ []

unfoldable pub literals_by : List ℕ → List ℕ → List ℕ
literals_by places ls = each (literal_by places) ls

unfoldable pub counted_by : List ℕ → List ℕ → List ℕ
counted_by places ls = length ls ∷ literals_by places ls

unfoldable pub row_by : List ℕ → Row → List ℕ
row_by places r =
    r.effect % 2 ∷ get_or places (2 * atom r.effect) 0 ∷ get_or places (2 * atom r.effect + 1) 0
    ∷ counted_by places r.conditions

unfoldable pub rows_by : List ℕ → List Row → List ℕ
rows_by places rs = each (row_by places) rs

unfoldable pub operator_by : List ℕ → Operator → List ℕ
operator_by places o = counted_by places o.precondition ++ (length o.rows ∷ rows_by places o.rows)

-- variables and values are low, and the words find room in the target from `at` on
pub record Ready (places words target : List ℕ) (at : ℕ) : Type 0 where
  pub low : (i : ℕ) → get_or places i 0 < most_atoms
  pub room : at + length words ≤ length target

-- atoms that have places, with variables below n
pub record AtomsGiven (places trues : List ℕ) (n : ℕ) : Type 0 where
  pub below : all_below (atoms_of places) trues ≡ true
  pub variable : (a : ℕ) → a < atoms_of places → get_or places (2 * a) 0 < n
