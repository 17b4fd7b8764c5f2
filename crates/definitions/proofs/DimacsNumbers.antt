-- Numbers in decimal: what is written is read as the number, and a number holds no blank. Assumes nothing.
use mathlib.Core.Bool.{Bool, true, false, not, ◌&&◌, false≢true}
use mathlib.Core.Logic.{◌⊎◌, inl, inr}
use mathlib.Core.Path.{◌≡◌, refl, sym, ◌∙◌, ap}
use mathlib.Core.List.{List, [], ◌∷◌}
use Prim.Native.Nat.{ℕ, zero, suc, ◌+◌, ◌-◌, ◌*◌, ◌/◌, ◌%◌, ◌^◌, ◌≤◌, ◌<◌, min}
use native.Mathlib.Nat.{pow-zero, pow-suc}
use native.Mathlib.Omega.{arith}
use lib.Dec.{eqb, leb}
use borrow.Author.Tests.{leb-true, le-leb, eqb-true, ne_eqb}
use Rattle.definitions.specs.Lists.{all, empty}
use Rattle.definitions.specs.Text.{digits, decimal}
use Rattle.definitions.specs.Dimacs.{blank, Number, is_digit, value_behind, is_numeral, is_number, number_in}
use Rattle.definitions.proofs.ListLaws.{and_left, and_right, and_both, or_left, or_cases}

-- a value may be held at a cap: below it nothing changes, and no sum grows past ten times it
pub value_capped : (cap n d : ℕ) → min cap (10 * min cap n + d) ≡ min cap (10 * n + d)
value_capped cap n d = omega arith

pub value_held : (cap n : ℕ) (ds : List ℕ) → min cap (value_behind (min cap n) ds) ≡ min cap (value_behind n ds)
unfolding value_behind
value_held cap n [] = omega arith
value_held cap n (d ∷ ds) =
    sym (value_held cap (10 * min cap n + (d - 48)) ds)
    ∙ ap (λ z. min cap (value_behind z ds)) (value_capped cap n (d - 48))
    ∙ value_held cap (10 * n + (d - 48)) ds

-- ---- digits of a number
digit_right : (n : ℕ) → is_digit (48 + n % 10) ≡ true
unfolding is_digit
digit_right n = and_both (le-leb 48 (48 + n % 10) (omega arith)) (le-leb (48 + n % 10) 57 (omega arith))

fewer : (k n : ℕ) → n < 10 ^ suc k → n / 10 < 10 ^ k
fewer k n h = let p = pow-suc 10 k in omega arith

digits_numeral : (k n : ℕ) (rest : List ℕ) → n < 10 ^ k → 1 ≤ n → all is_digit rest ≡ true → is_numeral (digits k n rest) ≡ true
unfolding digits is_numeral all
digits_numeral zero n rest h low d = absurd (omega arith)
digits_numeral (suc k) n rest h low d =
    go (n / 10) refl (λ one. digits_numeral k (n / 10) ((48 + n % 10) ∷ rest) (fewer k n h) one (and_both (digit_right n) d))
  where
    go :
        (m : ℕ) → n / 10 ≡ m → (1 ≤ n / 10 → is_numeral (digits k (n / 10) ((48 + n % 10) ∷ rest)) ≡ true)
        → is_numeral (digits (suc k) n rest) ≡ true
    go zero e rec =
        rw (e, digits)
        (and_both (and_both (le-leb 49 (48 + n % 10) (omega arith)) (le-leb (48 + n % 10) 57 (omega arith))) d)
    go (suc m) e rec = rw (e, digits) (rec (omega arith))

digits_value : (k n : ℕ) (rest : List ℕ) → n < 10 ^ k → value_behind 0 (digits k n rest) ≡ value_behind n rest
unfolding digits value_behind
digits_value zero n rest h = ap (λ z. value_behind z rest) (let p = pow-zero 10 in omega arith)
digits_value (suc k) n rest h = go (n / 10) refl (digits_value k (n / 10) ((48 + n % 10) ∷ rest) (fewer k n h))
  where
    go :
        (m : ℕ) → n / 10 ≡ m → value_behind 0 (digits k (n / 10) ((48 + n % 10) ∷ rest)) ≡ value_behind (10 * (n / 10) + (48 + n % 10 - 48)) rest
        → value_behind 0 (digits (suc k) n rest) ≡ value_behind n rest
    go zero e rec = rw (e, digits) (ap (λ z. value_behind z rest) (omega arith))
    go (suc m) e rec = rw (e, digits) (rec ∙ ap (λ z. value_behind z rest) (omega arith))

-- ---- numbers
pub numeral_number : (w : List ℕ) → is_numeral w ≡ true → (is_number w ≡ true) × (number_in w ≡ record { negative = false; size = value_behind 0 w })
unfolding is_numeral is_number number_in
numeral_number [] h = absurd (false≢true h)
numeral_number (d ∷ ds) h = (rw (not_minus, is_number) (or_left (eqb d 48 && empty ds) h), rw (not_minus, number_in))
  where
    low : 49 ≤ d
    low = leb-true 49 d (and_left (leb 49 d) (leb d 57) (and_left (leb 49 d && leb d 57) (all is_digit ds) h))

    not_minus : eqb d 45 ≡ false
    not_minus = ne_eqb d 45 (λ e. absurd (omega (arith, low)))

-- a number written is read as itself
pub record Reads (w : List ℕ) (x : Number) : Type 0 where
  pub right : is_number w ≡ true
  pub value : number_in w ≡ x

-- numbers of at most 20 digits
pub decimal_reads : (n : ℕ) → n < 10 ^ 20 → Reads (decimal n) (record { negative = false; size = n })
unfolding decimal is_number number_in value_behind is_numeral all empty digits
decimal_reads zero h = record { right = refl; value = refl }
decimal_reads (suc n) h =
    let numeral = digits_numeral 20 (suc n) [] h (omega arith) refl in
    let r = numeral_number (digits 20 (suc n) []) numeral in
    record {
      right = r.0;
      value = r.1 ∙ ap (λ z. record { negative = false; size = z }) (digits_value 20 (suc n) [] h);
    }

pub minus_reads : (n : ℕ) → 1 ≤ n → n < 10 ^ 20 → Reads (45 ∷ decimal n) (record { negative = true; size = n })
unfolding decimal is_number number_in value_behind all
minus_reads n low h =
    record {
      right = digits_numeral 20 n [] h low refl;
      value = ap (λ z. record { negative = true; size = z }) (digits_value 20 n [] h);
    }

-- ---- a number has a byte and no blank
pub record Word (w : List ℕ) : Type 0 where
  pub some : empty w ≡ false
  pub whole : all (λ b. not (blank b)) w ≡ true

solid : (b : ℕ) → 33 ≤ b → not (blank b) ≡ true
unfolding blank
solid b h = rw (ne_eqb b 32 (λ e. absurd (omega arith)), ne_eqb b 10 (λ e. absurd (omega arith)))

digits_solid : (ds : List ℕ) → all is_digit ds ≡ true → all (λ b. not (blank b)) ds ≡ true
unfolding all is_digit
digits_solid [] h = refl
digits_solid (d ∷ ds) h =
    let low = leb-true 48 d (and_left (leb 48 d) (leb d 57) (and_left (is_digit d) (all is_digit ds) h)) in
    and_both (solid d (omega arith)) (digits_solid ds (and_right (is_digit d) (all is_digit ds) h))

numeral_solid : (w : List ℕ) → is_numeral w ≡ true → all (λ b. not (blank b)) w ≡ true
unfolding is_numeral all
numeral_solid [] h = absurd (false≢true h)
numeral_solid (d ∷ ds) h =
    let low = leb-true 49 d (and_left (leb 49 d) (leb d 57) (and_left (leb 49 d && leb d 57) (all is_digit ds) h)) in
    and_both (solid d (omega arith)) (digits_solid ds (and_right (leb 49 d && leb d 57) (all is_digit ds) h))

pub number_word : (w : List ℕ) → is_number w ≡ true → Word w
unfolding is_number empty all
number_word [] h = absurd (false≢true h)
number_word (b ∷ bs) h = record { some = refl; whole = go (eqb b 45) refl }
  where
    alone : (bs : List ℕ) → empty bs ≡ true → all (λ b. not (blank b)) bs ≡ true
    alone [] e = refl
    alone (x ∷ xs) e = absurd (false≢true e)

    plain : (is_numeral (b ∷ bs) ≡ true) ⊎ ((eqb b 48 && empty bs) ≡ true) → all (λ b. not (blank b)) (b ∷ bs) ≡ true
    plain (inl e) = numeral_solid (b ∷ bs) e
    plain (inr e) =
        let is = eqb-true b 48 (and_left (eqb b 48) (empty bs) e) in
        and_both (solid b (omega arith)) (alone bs (and_right (eqb b 48) (empty bs) e))

    go : (x : Bool) → eqb b 45 ≡ x → all (λ b. not (blank b)) (b ∷ bs) ≡ true
    go true e = let is = eqb-true b 45 e in and_both (solid b (omega arith)) (numeral_solid bs (rw (e, is_number) at h))
    go false e = plain (or_cases (is_numeral (b ∷ bs)) (eqb b 48 && empty bs) (rw (e, is_number) at h))
