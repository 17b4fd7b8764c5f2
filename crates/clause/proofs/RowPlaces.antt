-- Laws of places of rows, for the walks over rows. Assumes nothing.
use mathlib.Core.Path.{◌≡◌, refl, sym, ◌∙◌, ap}
use mathlib.Core.Bool.{Bool, true, false}
use mathlib.Core.List.{List, []}
use Prim.Native.Nat.{ℕ, ◌+◌, ◌-◌, ◌*◌, ◌%◌, ◌^◌, ◌≤◌, ◌<◌}
use native.Mathlib.Nat.{mul-suc, mul-zero}
use native.Mathlib.Omega.{arith}
use lib.Dec.{ltb, leb}
use lib.ListN.{length, get_or, take, drop}
use borrow.Author.Tests.{ltb-true, ltb-false, lt-ltb, le-ltb, leb-true, leb-false}
use Rattle.definitions.specs.Clauses.{width, clause_of, row_at}
use Rattle.clause.specs.Rows.{row_count, clauses_of}
use Rattle.clause.specs.Place.{At, Placed, AtRow, HasNext, HasPrevious}
use Rattle.clause.specs.declared.place.RowPlace.{RowPlace}
use Rattle.clause.proofs.RowLaws.{row_inside, clauses_length, clauses_at_lem}

at_position : {p : RowPlace} (n : ℕ) → At n p → p.at ≡ width * p.number
at_position n a = a.position ∙ ap (λ (k : ℕ). width * k) (sym a.number)

-- a walk starts
pub placed_first : {w : List ℕ} {p : RowPlace} → At 0 p → Placed w p
placed_first a = record { position = at_position 0 a; inside = omega (arith, a.number) }

pub first_position : {p : RowPlace} → At 0 p → p.at ≡ 0
first_position a = a.position ∙ mul-zero width

module _ {w : List ℕ} {p : RowPlace} (placed : Placed w p) where
  pub place_inside : p.at ≤ length w
  unfolding width row_count
  place_inside = omega (arith, placed.position, placed.inside)

  pub at_row : p.number < row_count w → AtRow w p
  at_row h = record { position = placed.position; inside = h }

  -- of whole rows, one begins wherever words are left
  pub row_begins : length w % width ≡ 0 → p.at < length w → AtRow w p
  unfolding width row_count
  row_begins whole h = at_row (omega (arith, placed.position))

  -- by the walk's test there is a row, or none is left
  pub is_row : {r : Bool} → r ≡ ltb p.number (row_count w) → r ≡ true → AtRow w p
  is_row e h = at_row (ltb-true p.number (row_count w) (sym e ∙ h))

  pub no_row : {r : Bool} → r ≡ ltb p.number (row_count w) → r ≡ false → row_count w ≤ p.number
  no_row e h = ltb-false p.number (row_count w) (sym e ∙ h)

  pub no_clause : {r : Bool} → r ≡ ltb p.number (row_count w) → r ≡ false → length (clauses_of w) ≤ p.number
  no_clause e h = omega (arith, no_row e h, clauses_length w)

  -- the code's test
  pub row_left : leb width (length w - p.at) ≡ ltb p.number (row_count w)
  unfolding width row_count
  row_left = go (leb width (length w - p.at)) refl
    where
      go : (r : Bool) → leb width (length w - p.at) ≡ r → leb width (length w - p.at) ≡ ltb p.number (row_count w)
      go true e = e ∙ sym (lt-ltb p.number (row_count w) (omega (arith, placed.position, leb-true width (length w - p.at) e)))
      go false e = e ∙ sym (le-ltb p.number (row_count w) (omega (arith, placed.position, leb-false width (length w - p.at) e)))

-- words of the same length have the same places
pub placed_in : {v w : List ℕ} {p : RowPlace} → length v ≡ length w → Placed w p → Placed v p
unfolding row_count
placed_in e placed = record { position = placed.position; inside = rw e placed.inside }

module _ {w : List ℕ} {p : RowPlace} (row : AtRow w p) where
  pub row_ends : p.at + width ≤ length w
  row_ends = omega (arith, row.position, row_inside w p.number row.inside)

  -- the words of the row, and its clause
  pub row_words_lem : take width (drop p.at w) ≡ row_at w p.number
  unfolding row_at
  row_words_lem = rw row.position

  pub row_clause : {words f : List ℕ} → words ≡ row_at w p.number → f ≡ clause_of words → f ≡ get_or (clauses_of w) p.number []
  row_clause e q = q ∙ ap clause_of e ∙ sym (clauses_at_lem w p.number row.inside)

  pub has_clause_lem : p.number < length (clauses_of w)
  has_clause_lem = omega (arith, row.inside, clauses_length w)

  -- the next row
  pub has_next : length w < 2 ^ 64 → HasNext p
  has_next h = record { position = row.position; fits = omega (arith, row_ends) }

  pub placed_next : {q : RowPlace} → At (p.number + 1) q → Placed w q
  placed_next a = record { position = at_position (p.number + 1) a; inside = omega (arith, row.inside, a.number) }

  pub next_position : {q : RowPlace} → At (p.number + 1) q → q.at ≡ p.at + width
  next_position a = omega (arith, a.position, row.position, mul-suc width p.number)

  pub fewer_left : {q : RowPlace} → At (p.number + 1) q → row_count w - q.number < row_count w - p.number
  fewer_left a = omega (arith, row.inside, a.number)

  -- the row before
  pub has_previous : (p.number ≡ 0 → ⊥) → HasPrevious p
  has_previous h = record { position = row.position; some_row = omega arith }

  pub row_before : {q : RowPlace} → At (p.number - 1) q → AtRow w q
  row_before a = record { position = at_position (p.number - 1) a; inside = omega (arith, row.inside, a.number) }
