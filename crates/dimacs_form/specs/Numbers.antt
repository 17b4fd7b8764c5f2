-- Words as numbers, their sizes held at the greatest one. Assumes nothing.
use Rattle.std.specs.Prelude.{Bool, true, false, ◌&&◌, ◌≡◌, List, ◌∷◌, Option, Some, None, ℕ, ◌<◌, min, leb, get_or, drop}
use Rattle.definitions.specs.Dimacs.{tokens, is_numeral, value_behind, is_number, number_in}
use Rattle.dimacs_form.specs.Places.{Place}
use Rattle.dimacs_form.specs.declared.number.Number.{Number}

-- the greatest size that is told apart
abbrev pub most_size : ℕ
most_size = 18446744073709551615

-- the first byte is a digit that is not 0; 0 if there is none
unfoldable pub begins : List ℕ → Bool
begins w = leb 49 (get_or w 0 0) && leb (get_or w 0 0) 57

-- what a word of digits is
abbrev pub DigitsOf : List ℕ → Option ℕ → Type 0
DigitsOf w None = is_numeral w ≡ false
DigitsOf w (Some n) = (is_numeral w ≡ true) × (n ≡ min most_size (value_behind 0 w))

-- a sign and digits
abbrev pub signed_of : Bool → Option ℕ → ℕ → Option Number
signed_of minus None next = None
signed_of minus (Some n) next = Some (record { minus = minus; size = n; next = next })

-- a word is the number
pub record IsNumber (w : List ℕ) (n : Number) : Type 0 where
  pub is : is_number w ≡ true
  pub sign : (number_in w).negative ≡ n.minus
  pub size : n.size ≡ min most_size (number_in w).size

-- what a word is, the next one beginning at `next`
abbrev pub Judged : List ℕ → ℕ → Option Number → Type 0
Judged w next None = is_number w ≡ false
Judged w next (Some n) = IsNumber w n × (n.next ≡ next)

-- a word that is no number stands at the place
pub record OtherAt (text : List ℕ) (at : ℕ) : Type 0 where
  pub word : List ℕ
  pub rest : List (List ℕ)
  pub here : tokens (drop at text) ≡ word ∷ rest
  pub other : is_number word ≡ false

-- a number stands at the place, and the next word where it says
pub record NumberAt (text : List ℕ) (at : ℕ) (n : Number) : Type 0 where
  pub word : List ℕ
  pub here : tokens (drop at text) ≡ word ∷ tokens (drop n.next text)
  pub number : IsNumber word n
  pub place : Place text n.next
  pub later : at < n.next

abbrev pub Scanned : List ℕ → ℕ → Option Number → Type 0
Scanned text at None = OtherAt text at
Scanned text at (Some n) = NumberAt text at n
