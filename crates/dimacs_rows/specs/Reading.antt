-- A clause of a text that is read into a row. Assumes nothing.
use Rattle.std.specs.Prelude.{Bool, true, false, not, ◌&&◌, ◌≡◌, List, ◌∷◌, map, Option, Some, None, ℕ, ◌<◌, eqb, ltb, length, get_or, drop}
use Rattle.definitions.specs.Lists.{all, member}
use Rattle.definitions.specs.Literal.{most_atoms, most_literals, fill, atom, all_below}
use Rattle.definitions.specs.Clauses.{width, row_of}
use Rattle.definitions.specs.Synthesis.{insert_literal}
use Rattle.definitions.specs.Dimacs.{tokens, fits_row, sorted}
use Rattle.dimacs_rows.specs.Clauses.{Left, clauses_said}
use Rattle.dimacs_form.specs.Places.{Place}

-- the clauses of a text from a place on
abbrev pub clauses_at : List ℕ → ℕ → List (List ℕ)
clauses_at text at = clauses_said (tokens (drop at text))

-- there is room for one literal more, and its atom is new; then it is put in
pub record Added (f : List ℕ) (l : ℕ) (new : List ℕ) (r : Bool) : Type 0 where
  pub answer : r ≡ (ltb (length f) width && not (member (atom l) (map atom f)))
  pub row : r ≡ true → new ≡ row_of (insert_literal l f)

-- clauses of a text of the form begin at the place, or it is the end
pub record Clauses (text : List ℕ) (at : ℕ) : Type 0 where
  pub place : Place text at
  pub left : Left most_atoms true (tokens (drop at text))

-- a clause begins at the place
pub record Begins (text : List ℕ) (at : ℕ) : Type 0 where
  pub clauses : Clauses text at
  pub inside : at < length text

-- a clause ends: it has no literal, or the next one begins
unfoldable pub end_of : List ℕ → ℕ → Option ℕ
end_of row next =
    elim (eqb (get_or row 0 0) fill) [ true ↦ None | false ↦ Some next ]

-- the clause from one place to the other is in the row
pub record RowRead (text : List ℕ) (from : ℕ) (words : List ℕ) (next : ℕ) : Type 0 where
  pub clause : List ℕ
  pub here : clauses_at text from ≡ clause ∷ clauses_at text next
  pub fits : fits_row clause ≡ true
  pub low : all_below most_literals clause ≡ true
  pub row : words ≡ row_of (sorted clause)
  pub behind : Clauses text next
  pub later : from < next

abbrev pub ClauseRead : List ℕ → ℕ → List ℕ → Option ℕ → Type 0
ClauseRead text from row None = all fits_row (clauses_at text from) ≡ false
ClauseRead text from row (Some next) = RowRead text from row next
