-- Laws of the digits of a number, from the last to the first. Assumes nothing.
use mathlib.Core.Path.{◌≡◌, refl, sym, ◌∙◌, ap}
use mathlib.Core.List.{List, ◌∷◌}
use Prim.Native.Nat.{ℕ, zero, suc, ◌+◌, ◌/◌, ◌%◌, ◌≤◌, ◌<◌}
use native.Mathlib.Omega.{arith}
use lib.ListN.{length, set, drop, length-set, drop_of_length-le}
use lib.Seq.{drop-cons, get_or-set_same, drop-set-lt}
use Rattle.definitions.specs.Text.{digits, decimal}

pub digits_one : (k n : ℕ) (rest : List ℕ) → n / 10 ≡ 0 → digits (suc k) n rest ≡ (48 + n % 10) ∷ rest
unfolding digits
digits_one k n rest e = rw (e, digits)

pub digits_more : (k n : ℕ) (rest : List ℕ) → (n / 10 ≡ 0 → ⊥) → digits (suc k) n rest ≡ digits k (n / 10) ((48 + n % 10) ∷ rest)
unfolding digits
digits_more k n rest h = go (n / 10) refl h
  where
    go : (m : ℕ) → n / 10 ≡ m → (m ≡ 0 → ⊥) → digits (suc k) n rest ≡ digits k (n / 10) ((48 + n % 10) ∷ rest)
    go zero e z = absurd (z refl)
    go (suc m) e z = rw (e, digits) (rw e)

-- the digits in front of what is written from place i on; the next goes to place j
module _ (room : List ℕ) (i j n d : ℕ) (size : length room ≡ 20) (low : i ≤ 20) (next : j + 1 ≡ i) (digit : d ≡ 48 + n % 10) where
  written_from : drop j (set room j d) ≡ (48 + n % 10) ∷ drop (suc j) room
  written_from =
      let s = length-set room j d in
      let h : j < length (set room j d) = omega arith in
      let k : j < length room = omega arith in
      rw (drop-cons (set room j d) j 0 h, get_or-set_same room j d 0 k, drop-set-lt (suc j) room j d (omega arith))
      (ap (λ (z : ℕ). z ∷ drop (suc j) room) digit)

  from_next : digits i n (drop i room) ≡ digits (suc j) n (drop (suc j) room)
  from_next = let e : i ≡ suc j = omega arith in rw e

  pub digits_last : n / 10 ≡ 0 → digits i n (drop i room) ≡ drop j (set room j d)
  digits_last z = from_next ∙ digits_one j n (drop (suc j) room) z ∙ sym written_from

  pub digits_next : (n / 10 ≡ 0 → ⊥) → digits i n (drop i room) ≡ digits j (n / 10) (drop j (set room j d))
  digits_next z = from_next ∙ digits_more j n (drop (suc j) room) z ∙ ap (digits j (n / 10)) (sym written_from)

pub digits_start : (room : List ℕ) (n : ℕ) → length room ≡ 20 → decimal n ≡ digits 20 n (drop 20 room)
unfolding decimal
digits_start room n e = let h : length room ≤ 20 = omega arith in rw (drop_of_length-le room {i = 20} h)

pub digits_end : (room : List ℕ) (n i : ℕ) → i ≡ 0 → digits i n (drop i room) ≡ room
unfolding digits
digits_end room n i e = rw e
