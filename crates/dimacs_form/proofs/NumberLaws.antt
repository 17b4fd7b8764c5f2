-- Words read as numbers, digit by digit. Assumes nothing.
use mathlib.Core.Bool.{Bool, true, false, ◌&&◌, ◌||◌, false≢true}
use mathlib.Core.Path.{◌≡◌, refl, sym, ◌∙◌, ap}
use mathlib.Core.List.{List, [], ◌∷◌}
use Rattle.std.proofs.Common.{Option, Some, None}
use Prim.Native.Nat.{ℕ, suc, ◌+◌, ◌-◌, ◌*◌, ◌≤◌, ◌<◌, min}
use native.Mathlib.Numerals.{add-one}
use native.Mathlib.Omega.{arith}
use lib.Dec.{eqb, leb}
use lib.ListN.{length, get_or, take, drop, length-drop, drop_of_length-le}
use lib.Seq.{drop-cons, take_all}
use borrow.Author.Tests.{leb-true, le-leb, eqb-true, eq-eqb, ne_eqb}
use Rattle.definitions.specs.Lists.{all, empty}
use Rattle.definitions.specs.Dimacs.{is_digit, is_numeral, value_behind, is_number, number_in, tokens}
use Rattle.definitions.proofs.ListLaws.{and_left, and_right}
use Rattle.definitions.proofs.DimacsNumbers.{value_held}
use Rattle.dimacs_form.specs.Places.{between}
use Rattle.dimacs_form.specs.Places.{WordAt, Skipped}
use Rattle.dimacs_form.specs.Numbers.{most_size, begins, DigitsOf, signed_of, Judged, Scanned}
use Rattle.dimacs_form.specs.declared.number.Number.{Number}

-- ---- digits
pub not_begun : (w : List ℕ) → begins w ≡ false → is_numeral w ≡ false
unfolding begins is_numeral
not_begun [] h = refl
not_begun (x ∷ w) h = rw h

-- the first digit is one of the digits
pub begun_digits : (w : List ℕ) → begins w ≡ true → is_numeral w ≡ all is_digit w
unfolding begins is_numeral is_digit all
begun_digits [] h = absurd (false≢true h)
begun_digits (x ∷ w) h =
    let low = leb-true 49 x (and_left (leb 49 x) (leb x 57) h) in
    rw (h, le-leb 48 x (omega arith), and_right (leb 49 x) (leb x 57) h)

-- the digits before place i are read: the size so far, and what is left
pub record Reading (w : List ℕ) (size i : ℕ) : Type 0 where
  pub inside : i ≤ length w
  pub held : size ≤ most_size
  pub numeral : is_numeral w ≡ all is_digit (drop i w)
  pub value : min most_size (value_behind 0 w) ≡ min most_size (value_behind size (drop i w))

pub reading_start : (w : List ℕ) → begins w ≡ true → Reading w 0 0
reading_start w h = record { inside = omega arith; held = omega arith; numeral = begun_digits w h; value = refl }

module _ (w : List ℕ) (size i : ℕ) (r : Reading w size i) where
  here : (p : ℕ → Bool) → i < length w → all p (drop i w) ≡ (p (get_or w i 0) && all p (drop (i + 1) w))
  unfolding all
  here p h = rw (drop-cons w i 0 h, add-one i)

  pub reading_stops : i < length w → is_digit (get_or w i 0) ≡ false → is_numeral w ≡ false
  reading_stops h e = r.numeral ∙ here is_digit h ∙ rw e

  pub reading_next :
      (next : ℕ) → i < length w → is_digit (get_or w i 0) ≡ true → next ≡ min most_size (10 * size + (get_or w i 0 - 48)) → Reading w next (i + 1)
  unfolding value_behind
  reading_next next h e n =
      record {
        inside = omega arith;
        held = omega arith;
        numeral = r.numeral ∙ here is_digit h ∙ rw e;
        value =
            r.value
            ∙ rw (drop-cons w i 0 h, add-one i, n) (sym (value_held most_size (10 * size + (get_or w i 0 - 48)) (drop (suc i) w)));
      }

  pub reading_over : length w ≤ i → DigitsOf w (Some size)
  unfolding value_behind all
  reading_over h =
      let none = drop_of_length-le w h in
      let v : min most_size (value_behind 0 w) ≡ min most_size size = r.value ∙ rw none in
      let k = r.held in
      (r.numeral ∙ rw none, omega arith)

-- ---- a word by its first byte
module _ (w : List ℕ) (next : ℕ) where
  minus_number : 0 < length w → get_or w 0 0 ≡ 45 → is_number w ≡ is_numeral (drop 1 w)
  unfolding is_number
  minus_number h e = go w h e
    where
      go : (w : List ℕ) → 0 < length w → get_or w 0 0 ≡ 45 → is_number w ≡ is_numeral (drop 1 w)
      go [] h e = absurd (omega arith)
      go (b ∷ w) h e = rw (eq-eqb b 45 e, is_number)

  minus_size : 0 < length w → get_or w 0 0 ≡ 45 → number_in w ≡ record { negative = true; size = value_behind 0 (drop 1 w) }
  unfolding number_in
  minus_size h e = go w h e
    where
      go : (w : List ℕ) → 0 < length w → get_or w 0 0 ≡ 45 → number_in w ≡ record { negative = true; size = value_behind 0 (drop 1 w) }
      go [] h e = absurd (omega arith)
      go (b ∷ w) h e = rw (eq-eqb b 45 e, number_in)

  plain_number : 0 < length w → (get_or w 0 0 ≡ 45 → ⊥) → (eqb (length w) 1 && eqb (get_or w 0 0) 48) ≡ false → is_number w ≡ is_numeral w
  unfolding is_number empty
  plain_number h e z = go w h e z
    where
      or-false : (b : Bool) → (b || false) ≡ b
      or-false true = refl
      or-false false = refl

      and-false : (b : Bool) → (b && false) ≡ false
      and-false true = refl
      and-false false = refl

      go :
          (w : List ℕ) → 0 < length w → (get_or w 0 0 ≡ 45 → ⊥) → (eqb (length w) 1 && eqb (get_or w 0 0) 48) ≡ false
          → is_number w ≡ is_numeral w
      go [] h e z = absurd (omega arith)
      go (b ∷ []) h e z = rw (ne_eqb b 45 e, is_number, z) (or-false (is_numeral (b ∷ [])))
      go (b ∷ (d ∷ w)) h e z = rw (ne_eqb b 45 e, is_number, and-false (eqb b 48)) (or-false (is_numeral (b ∷ (d ∷ w))))

  plain_size : (get_or w 0 0 ≡ 45 → ⊥) → number_in w ≡ record { negative = false; size = value_behind 0 w }
  unfolding number_in value_behind
  plain_size e = go w e
    where
      go : (w : List ℕ) → (get_or w 0 0 ≡ 45 → ⊥) → number_in w ≡ record { negative = false; size = value_behind 0 w }
      go [] e = refl
      go (b ∷ w) e = rw (ne_eqb b 45 e, number_in)

  signed_is :
      (s : Bool) (v : List ℕ) (d : Option ℕ) → DigitsOf v d → is_number w ≡ is_numeral v
      → number_in w ≡ record { negative = s; size = value_behind 0 v } → Judged w next (signed_of s d next)
  signed_is s v None h is n = is ∙ h
  signed_is s v (Some k) h is n = (
    record { is = is ∙ h.0; sign = ap (λ z. z.negative) n; size = h.1 ∙ ap (λ z. min most_size z.size) (sym n) },
    refl,
  )

  all_behind : take (length w - 1) (drop 1 w) ≡ drop 1 w
  all_behind = take_all (length w - 1) (drop 1 w) (omega (arith, length-drop 1 w))

  pub minus_judged :
      (d : Option ℕ) → 0 < length w → get_or w 0 0 ≡ 45 → DigitsOf (take (length w - 1) (drop 1 w)) d → Judged w next (signed_of true d next)
  minus_judged d h e k = signed_is true (drop 1 w) d (rw all_behind at k) (minus_number h e) (minus_size h e)

  pub plain_judged :
      (d : Option ℕ) → 0 < length w → (get_or w 0 0 ≡ 45 → ⊥) → (eqb (length w) 1 && eqb (get_or w 0 0) 48) ≡ false
      → DigitsOf w d → Judged w next (signed_of false d next)
  plain_judged d h e z k = signed_is false w d k (plain_number h e z) (plain_size e)

  pub zero_judged :
      (eqb (length w) 1 && eqb (get_or w 0 0) 48) ≡ true
      → Judged w next (signed_of false (Some 0) next)
  unfolding is_number is_numeral number_in value_behind empty
  zero_judged z =
      go w (eqb-true (length w) 1 (and_left (eqb (length w) 1) (eqb (get_or w 0 0) 48) z))
      (eqb-true (get_or w 0 0) 48 (and_right (eqb (length w) 1) (eqb (get_or w 0 0) 48) z))
    where
      go :
          (w : List ℕ) → length w ≡ 1 → get_or w 0 0 ≡ 48
          → Judged w next (signed_of false (Some 0) next)
      go [] h e = absurd (omega arith)
      go (b ∷ []) h e = rw e (record { is = refl; sign = refl; size = refl }, refl)
      go (b ∷ (d ∷ w)) h e = absurd (omega arith)

-- ---- the word at a place
pub scanned :
    (text : List ℕ) (at end next : ℕ) (r : Option Number) → WordAt text at end → Skipped text end next → Judged (between at end text) next r
    → Scanned text at r
scanned text at end next None w s j =
    record { word = between at end text; rest = tokens (drop end text); here = w.word; other = j }
scanned text at end next (Some n) w s j =
    record {
      word = between at end text;
      here = w.word ∙ ap (λ z. between at end text ∷ z) (s.same ∙ ap (λ k. tokens (drop k text)) (sym j.1));
      number = j.0;
      place = rw j.1 s.place;
      later = let a = w.later in let b = s.later in let e = j.1 in omega arith;
    }
