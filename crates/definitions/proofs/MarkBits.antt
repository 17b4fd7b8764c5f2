-- Marks by their bits: a bit tested and set, low bits cleared, ones counted, and the marks of a set. Whoever speaks of marks goes by
-- these laws; no other file looks at bits. Assumes nothing.
use mathlib.Core.Path.{◌≡◌, refl, sym, ◌∙◌, ap, ap₂}
use mathlib.Core.Bool.{Bool, true, false, cond}
use mathlib.Core.Logic.{◌⊎◌, inl, inr}
use mathlib.Core.List.{List, [], ◌∷◌, ◌++◌, map}
use Prim.Native.Nat.{ℕ, zero, suc, ◌+◌, ◌-◌, ◌*◌, ◌/◌, ◌%◌, ◌^◌, ◌≤◌, ◌<◌, max}
use native.Mathlib.Omega.{arith}
use native.Mathlib.Nat.{pow-suc, add-zero, one-mul, mul_assoc, zero-add, mod-eq_of_lt, max-zero}
use lib.Dec.{eqb, ltb}
use native.Mathlib.Decide.{ℕ_discrete, dec_lt}
use lib.ListN.{length, get_or, set, drop, replicate, length-set, length-replicate, get_or-replicate, get_or-append}
use lib.Seq.{length-take-le, length_front, ext_get_or, get_or-append-add, get_or-drop, get_or-set_same, get_or-set_other}
use borrow.Author.Tests.{eq-eqb, ne_eqb, lt-ltb, le-ltb}
use lib.Pow.{pow_pos, split, shl_exact, shr-shr, field, mod-mod-pow}
use lib.Bits.{bit_and, bit_or, or_step, and_mask, and_le_l, or_zero_r}
use lib.Count.{ones, ones_step, ones-le}
use Rattle.definitions.specs.Lists.{keep, range, below}
use Rattle.definitions.specs.Closure.{has, bit}
use Rattle.definitions.proofs.ListLaws.{decide, keep_yes, keep_no, table_at, table_length, below_count, below_get_or, get_or_map_low, keep_agree}
use Rattle.definitions.proofs.SetLaws.{below_of}
use Rattle.definitions.specs.Marks.{mark_bytes, bit_of, byte_of, marked, mark_byte, marks_of, marked_literals}

-- ---- one byte
half : (x r : ℕ) → r < 2 → (x * 2 + r) / 2 ≡ x
half x r h = omega arith

odd : (x r : ℕ) → r < 2 → (x * 2 + r) % 2 ≡ r
odd x r h = omega arith

even : (x : ℕ) → x * 2 % 2 ≡ 0
even x = omega arith

back : (x : ℕ) → x * 2 / 2 ≡ x
back x = omega arith

power_half : (k : ℕ) → 2 ^ suc k / 2 ≡ 2 ^ k
power_half k = omega (arith, pow-suc 2 k)

power_even : (k : ℕ) → 2 ^ suc k % 2 ≡ 0
power_even k = omega (arith, pow-suc 2 k)

-- a digit is the bit that tells whether it is 1
digit : (r : ℕ) → r < 2 → bit (eqb r 1) ≡ r
unfolding bit
digit zero h = refl
digit (suc zero) h = refl
digit (suc (suc r)) h = absurd (omega arith)

halved : (k b : ℕ) → b / 2 ^ suc k ≡ b / 2 / 2 ^ k
halved k b = ap (λ (e : ℕ). b / 2 ^ e) (omega arith) ∙ sym (shr-shr b 1 k)

pub bit_none : (k : ℕ) → bit_of 0 k ≡ false
unfolding bit_of
bit_none zero = refl
bit_none (suc k) = bit_none k

-- bytes with the same bits are equal
pub byte_ext : (n a b : ℕ) → a < 2 ^ n → b < 2 ^ n → ((k : ℕ) → k < n → bit_of a k ≡ bit_of b k) → a ≡ b
unfolding bit_of
byte_ext zero a b ha hb same = omega arith
byte_ext (suc n) a b ha hb same =
    let high = byte_ext n (a / 2) (b / 2) (omega (arith, pow-suc 2 n)) (omega (arith, pow-suc 2 n)) (λ k h. same (suc k) (let z = h in omega arith)) in
    let low = sym (digit (a % 2) (omega arith)) ∙ ap bit (same zero (omega arith)) ∙ digit (b % 2) (omega arith) in
    omega arith

-- the bits of a byte
lowest : (x : Bool) (y : ℕ) → eqb ((bit x + 2 * y) % 2) 1 ≡ x
unfolding bit
lowest true y = eq-eqb ((1 + 2 * y) % 2) 1 (omega arith)
lowest false y = ne_eqb ((0 + 2 * y) % 2) 1 (λ e. omega arith)

others : (x : Bool) (y : ℕ) → (bit x + 2 * y) / 2 ≡ y
unfolding bit
others true y = omega arith
others false y = omega arith

pub bit_byte : (xs : List Bool) (k : ℕ) → bit_of (byte_of xs) k ≡ get_or xs k false
unfolding bit_of byte_of
bit_byte [] k = bit_none k
bit_byte (x ∷ xs) zero = lowest x (byte_of xs)
bit_byte (x ∷ xs) (suc k) = ap (λ (y : ℕ). bit_of y k) (others x (byte_of xs)) ∙ bit_byte xs k

pub byte_below : (xs : List Bool) → byte_of xs < 2 ^ length xs
unfolding byte_of bit
byte_below [] = omega arith
byte_below (true ∷ xs) = omega (arith, byte_below xs, pow-suc 2 (length xs))
byte_below (false ∷ xs) = omega (arith, byte_below xs, pow-suc 2 (length xs))

-- the test of bit k
shifted_bit : (k b : ℕ) → eqb (b / 2 ^ k % 2) 1 ≡ bit_of b k
unfolding bit_of
shifted_bit zero b = let e : b / 2 ^ 0 ≡ b = omega arith in ap (λ (x : ℕ). eqb (x % 2) 1) e
shifted_bit (suc k) b = ap (λ (x : ℕ). eqb (x % 2) 1) (halved k b) ∙ shifted_bit k (b / 2)

-- bit k set
or_lowest : (b : ℕ) → bit_or b 1 ≡ b / 2 * 2 + 1
or_lowest b = or_step b 1 ∙ ap₂ (λ (x y : ℕ). x * 2 + y) (or_zero_r (b / 2)) (highest (b % 2) (omega arith))
  where
    highest : (r : ℕ) → r < 2 → max r 1 ≡ 1
    highest zero h = refl
    highest (suc zero) h = refl
    highest (suc (suc r)) h = absurd (omega arith)

or_next : (k b : ℕ) → bit_or b (2 ^ suc k) ≡ bit_or (b / 2) (2 ^ k) * 2 + b % 2
or_next k b =
    or_step b (2 ^ suc k) ∙ ap₂ (λ (x y : ℕ). bit_or (b / 2) x * 2 + max (b % 2) y) (power_half k) (power_even k)
    ∙ ap (λ (y : ℕ). bit_or (b / 2) (2 ^ k) * 2 + y) (max-zero (b % 2))

or_half : (k b : ℕ) → bit_or b (2 ^ suc k) / 2 ≡ bit_or (b / 2) (2 ^ k)
or_half k b = ap (λ (x : ℕ). x / 2) (or_next k b) ∙ half (bit_or (b / 2) (2 ^ k)) (b % 2) (omega arith)

pub or_bit : (k b : ℕ) → bit_of (bit_or b (2 ^ k)) k ≡ true
unfolding bit_of
or_bit zero b = ap (λ (x : ℕ). eqb (x % 2) 1) (or_lowest b) ∙ ap (λ (r : ℕ). eqb r 1) (odd (b / 2) 1 (omega arith))
or_bit (suc k) b = ap (λ (x : ℕ). bit_of x k) (or_half k b) ∙ or_bit k (b / 2)

pub or_others : (k b j : ℕ) → (j ≡ k → ⊥) → bit_of (bit_or b (2 ^ k)) j ≡ bit_of b j
unfolding bit_of
or_others zero b zero ne = absurd (ne refl)
or_others zero b (suc j) ne = ap (λ (x : ℕ). bit_of (x / 2) j) (or_lowest b) ∙ ap (λ (x : ℕ). bit_of x j) (half (b / 2) 1 (omega arith))
or_others (suc k) b zero ne =
    ap (λ (x : ℕ). eqb (x % 2) 1) (or_next k b) ∙ ap (λ (r : ℕ). eqb r 1) (odd (bit_or (b / 2) (2 ^ k)) (b % 2) (omega arith))
or_others (suc k) b (suc j) ne = ap (λ (x : ℕ). bit_of x j) (or_half k b) ∙ or_others k (b / 2) j (λ e. ne (ap suc e))

-- the u lowest bits cleared
clear_next : (u b : ℕ) → b / 2 ^ suc u * 2 ^ suc u ≡ b / 2 / 2 ^ u * 2 ^ u * 2
clear_next u b = ap₂ (λ (x y : ℕ). x * y) (halved u b) (pow-suc 2 u) ∙ sym (mul_assoc (b / 2 / 2 ^ u) (2 ^ u) 2)

pub low_cleared : (u b j : ℕ) → j < u → bit_of (b / 2 ^ u * 2 ^ u) j ≡ false
unfolding bit_of
low_cleared zero b j h = absurd (omega arith)
low_cleared (suc u) b zero h = ap (λ (x : ℕ). eqb (x % 2) 1) (clear_next u b) ∙ ap (λ (r : ℕ). eqb r 1) (even (b / 2 / 2 ^ u * 2 ^ u))
low_cleared (suc u) b (suc j) h =
    ap (λ (x : ℕ). bit_of (x / 2) j) (clear_next u b) ∙ ap (λ (x : ℕ). bit_of x j) (back (b / 2 / 2 ^ u * 2 ^ u))
    ∙ low_cleared u (b / 2) j (let z = h in omega arith)

pub high_kept : (u b j : ℕ) → u ≤ j → bit_of (b / 2 ^ u * 2 ^ u) j ≡ bit_of b j
unfolding bit_of
high_kept zero b j h = let e : b / 2 ^ 0 * 2 ^ 0 ≡ b = omega arith in ap (λ (x : ℕ). bit_of x j) e
high_kept (suc u) b zero h = absurd (omega arith)
high_kept (suc u) b (suc j) h =
    ap (λ (x : ℕ). bit_of (x / 2) j) (clear_next u b) ∙ ap (λ (x : ℕ). bit_of x j) (back (b / 2 / 2 ^ u * 2 ^ u))
    ∙ high_kept u (b / 2) j (let z = h in omega arith)

keep_first : (p : ℕ → Bool) (x : ℕ) (xs : List ℕ) → length (keep p (x ∷ xs)) ≡ bit (p x) + length (keep p xs)
unfolding keep bit
keep_first p x xs = go (decide (p x))
  where
    go : (p x ≡ true) ⊎ (p x ≡ false) → length (keep p (x ∷ xs)) ≡ bit (p x) + length (keep p xs)
    go (inl e) = let one : bit (p x) ≡ 1 = ap bit e in omega (arith, ap length (keep_yes p x xs e))
    go (inr e) = let none : bit (p x) ≡ 0 = ap bit e in omega (arith, ap length (keep_no p x xs e))

-- the ones among the n lowest bits, where p tells the bits from start on
pub ones_kept :
    (n b start : ℕ) (p : ℕ → Bool) → ((k : ℕ) → k < n → p (start + k) ≡ bit_of b k) → ones (b % 2 ^ n) ≡ length (keep p (range start n))
unfolding bit_of range keep ones
ones_kept zero b start p same = let e : b % 2 ^ 0 ≡ 0 = omega arith in ap ones e
ones_kept (suc n) b start p same =
    ones_step (b % 2 ^ suc n) ∙ ap₂ (λ (x y : ℕ). x + ones y) low high
    ∙ ap₂ (λ (x y : ℕ). x + y) first (ones_kept n (b / 2) (suc start) p rest) ∙ sym (keep_first p start (range (suc start) n))
  where
    low : b % 2 ^ suc n % 2 ≡ b % 2
    low = ap (λ (e : ℕ). b % 2 ^ e % 2) (omega arith) ∙ mod-mod-pow b n 1

    high : b % 2 ^ suc n / 2 ≡ b / 2 % 2 ^ n
    high = ap (λ (e : ℕ). b % 2 ^ e / 2) (omega arith) ∙ field b n 1

    first : b % 2 ≡ bit (p start)
    first = sym (digit (b % 2) (omega arith)) ∙ ap bit (sym (same zero (omega arith)) ∙ ap p (add-zero start))

    rest : (k : ℕ) → k < n → p (suc start + k) ≡ bit_of (b / 2) k
    rest k h = ap p (let z = h in omega arith) ∙ same (suc k) (let z = h in omega arith)

-- ---- marks
-- the marks of N atoms have room in their bytes
pub mark_inside : (N l : ℕ) → l < 2 * N → l / 8 < mark_bytes N
unfolding mark_bytes
mark_inside N l h = omega arith

pub marked_at : (ms : List ℕ) (i k : ℕ) → k < 8 → marked ms (8 * i + k) ≡ bit_of (get_or ms i 0) k
unfolding marked
marked_at ms i k h =
    let byte : (8 * i + k) / 8 ≡ i = omega arith in
    let place : (8 * i + k) % 8 ≡ k = omega arith in
    rw (byte, place)

-- a mark is its byte's
pub marked_byte : (ms ms' : List ℕ) (l : ℕ) → get_or ms' (l / 8) 0 ≡ get_or ms (l / 8) 0 → marked ms' l ≡ marked ms l
unfolding marked
marked_byte ms ms' l e = rw e

-- bytes below 256 with the same marks are equal
pub bytes_ext : (ms ms' : List ℕ) (i : ℕ) → get_or ms i 0 < 256 → get_or ms' i 0 < 256
    → ((l : ℕ) → l / 8 ≡ i → marked ms' l ≡ marked ms l) → get_or ms' i 0 ≡ get_or ms i 0
bytes_ext ms ms' i low low' same = byte_ext 8 (get_or ms' i 0) (get_or ms i 0) low' low go
  where
    go : (k : ℕ) → k < 8 → bit_of (get_or ms' i 0) k ≡ bit_of (get_or ms i 0) k
    go k h = sym (marked_at ms' i k h) ∙ same (8 * i + k) (let z = h in omega arith) ∙ marked_at ms i k h

-- the byte that has bit k alone, as a program makes it
pub bit_alone : (k : ℕ) → k < 8 → 1 * 2 ^ k % 256 ≡ 2 ^ k
bit_alone k h = shl_exact 1 k 8 (omega arith) (omega arith) ∙ one-mul (2 ^ k)

pub alone_positive : (k : ℕ) → k < 8 → 0 < 1 * 2 ^ k % 256
alone_positive k h = rw (bit_alone k h) (pow_pos k)

-- the test of a mark
pub test_mark : (ms : List ℕ) (l : ℕ) → eqb (get_or ms (l / 8) 0 / 2 ^ (l % 8) % 2) 1 ≡ marked ms l
unfolding marked
test_mark ms l = shifted_bit (l % 8) (get_or ms (l / 8) 0)

-- a literal is marked
module _ (ms : List ℕ) (l : ℕ) (inside : l / 8 < length ms) where
  unfoldable pub with_mark : List ℕ
  with_mark = set ms (l / 8) (bit_or (get_or ms (l / 8) 0) (2 ^ (l % 8)))

  pub set_mark : set ms (l / 8) (bit_or (get_or ms (l / 8) 0) (1 * 2 ^ (l % 8) % 256)) ≡ with_mark
  unfolding with_mark
  set_mark = ap (λ (x : ℕ). set ms (l / 8) (bit_or (get_or ms (l / 8) 0) x)) (bit_alone (l % 8) (omega arith))

  new_byte : get_or with_mark (l / 8) 0 ≡ bit_or (get_or ms (l / 8) 0) (2 ^ (l % 8))
  unfolding with_mark
  new_byte = get_or-set_same ms (l / 8) (bit_or (get_or ms (l / 8) 0) (2 ^ (l % 8))) 0 inside

  pub mark_length : length with_mark ≡ length ms
  unfolding with_mark
  mark_length = length-set ms (l / 8) (bit_or (get_or ms (l / 8) 0) (2 ^ (l % 8)))

  pub mark_here : marked with_mark l ≡ true
  unfolding marked
  mark_here = rw new_byte (or_bit (l % 8) (get_or ms (l / 8) 0))

  pub mark_others : (j : ℕ) → (j ≡ l → ⊥) → marked with_mark j ≡ marked ms j
  unfolding marked with_mark
  mark_others j ne = go (ℕ_discrete (j / 8) (l / 8))
    where
      go : Dec (j / 8 ≡ l / 8) → marked with_mark j ≡ marked ms j
      go (yes e) = rw (e, new_byte) (or_others (l % 8) (get_or ms (l / 8) 0) (j % 8) (λ q. ne (omega arith)))
      go (no d) = rw (get_or-set_other ms (l / 8) (j / 8) (bit_or (get_or ms (l / 8) 0) (2 ^ (l % 8))) 0 d)

-- ---- lists with a new front
behind : (p ms : List ℕ) (n i : ℕ) → length p ≡ n → n ≤ i → get_or (p ++ drop n ms) i 0 ≡ get_or ms i 0
behind p ms n i e h =
    let at : i ≡ length p + (i - n) = omega arith in
    let back : n + (i - n) ≡ i = omega arith in
    ap (λ (x : ℕ). get_or (p ++ drop n ms) x 0) at ∙ get_or-append-add p (drop n ms) (i - n) 0 ∙ get_or-drop n ms (i - n) 0
    ∙ ap (λ (x : ℕ). get_or ms x 0) back

-- ---- the marks of N atoms cleared: N/4 bytes, and the lowest bits of the next where N is no multiple of 4
module _ (N : ℕ) (ms : List ℕ) where
  unfoldable pub whole_cleared : List ℕ
  whole_cleared = replicate (N / 4) 0 ++ drop (N / 4) ms

  pub whole_length : N / 4 ≤ length ms → length whole_cleared ≡ length ms
  unfolding whole_cleared
  whole_length room = length_front ms (replicate (N / 4) 0) (N / 4) (length-replicate (N / 4) 0 ∙ sym (length-take-le (N / 4) ms room))

  whole_zero : (i : ℕ) → i < N / 4 → get_or whole_cleared i 0 ≡ 0
  unfolding whole_cleared
  whole_zero i h =
      get_or-append (replicate (N / 4) 0) (drop (N / 4) ms) 0 i (rw (length-replicate {A = ℕ} (N / 4) 0) h)
      ∙ get_or-replicate {A = ℕ} (N / 4) i 0 0 h

  pub whole_behind : (i : ℕ) → N / 4 ≤ i → get_or whole_cleared i 0 ≡ get_or ms i 0
  unfolding whole_cleared
  whole_behind i h = behind (replicate (N / 4) 0) ms (N / 4) i (length-replicate (N / 4) 0) h

  whole_low : (l : ℕ) → l / 8 < N / 4 → marked whole_cleared l ≡ false
  unfolding marked
  whole_low l h = rw (whole_zero (l / 8) h) (bit_none (l % 8))

  whole_high : (l : ℕ) → N / 4 ≤ l / 8 → marked whole_cleared l ≡ marked ms l
  whole_high l h = marked_byte ms whole_cleared l (whole_behind (l / 8) h)

  -- no bits are left over
  pub even_low : N % 4 ≡ 0 → (l : ℕ) → l < 2 * N → marked whole_cleared l ≡ false
  even_low e l h = whole_low l (omega arith)

  pub even_high : N % 4 ≡ 0 → (l : ℕ) → 2 * N ≤ l → marked whole_cleared l ≡ marked ms l
  even_high e l h = whole_high l (omega arith)

  -- some are
  module _ (inside : N / 4 < length ms) where
    unfoldable pub part_cleared : List ℕ
    part_cleared = set whole_cleared (N / 4) (get_or ms (N / 4) 0 / 2 ^ (2 * (N % 4)) * 2 ^ (2 * (N % 4)))

    -- as a program clears them
    pub clear_part : (ms₁ : List ℕ) → ms₁ ≡ whole_cleared
        → set ms₁ (N / 4) (get_or ms₁ (N / 4) 0 - get_or ms₁ (N / 4) 0 % (1 * 2 ^ (2 * (N % 4)) % 256)) ≡ part_cleared
    unfolding part_cleared
    clear_part ms₁ e =
        let b = get_or ms (N / 4) 0 in
        let low : b - b % 2 ^ (2 * (N % 4)) ≡ b / 2 ^ (2 * (N % 4)) * 2 ^ (2 * (N % 4)) = omega (arith, split b (2 * (N % 4))) in
        rw (e, bit_alone (2 * (N % 4)) (omega arith), whole_behind (N / 4) (omega arith), low)

    pub part_length : length part_cleared ≡ length ms
    unfolding part_cleared
    part_length = length-set whole_cleared (N / 4) (get_or ms (N / 4) 0 / 2 ^ (2 * (N % 4)) * 2 ^ (2 * (N % 4))) ∙ whole_length (omega arith)

    part_byte : get_or part_cleared (N / 4) 0 ≡ get_or ms (N / 4) 0 / 2 ^ (2 * (N % 4)) * 2 ^ (2 * (N % 4))
    unfolding part_cleared
    part_byte = get_or-set_same whole_cleared (N / 4) (get_or ms (N / 4) 0 / 2 ^ (2 * (N % 4)) * 2 ^ (2 * (N % 4))) 0 (rw (whole_length (omega arith)) inside)

    part_other : (l : ℕ) → (l / 8 ≡ N / 4 → ⊥) → marked part_cleared l ≡ marked whole_cleared l
    unfolding part_cleared
    part_other l ne =
        marked_byte whole_cleared part_cleared l
        (get_or-set_other whole_cleared (N / 4) (l / 8) (get_or ms (N / 4) 0 / 2 ^ (2 * (N % 4)) * 2 ^ (2 * (N % 4))) 0 ne)

    pub part_low : (l : ℕ) → l < 2 * N → marked part_cleared l ≡ false
    unfolding marked
    part_low l h = go (ℕ_discrete (l / 8) (N / 4))
      where
        go : Dec (l / 8 ≡ N / 4) → marked part_cleared l ≡ false
        go (yes e) = rw (e, part_byte) (low_cleared (2 * (N % 4)) (get_or ms (N / 4) 0) (l % 8) (omega arith))
        go (no ne) = part_other l ne ∙ whole_low l (omega arith)

    pub part_high : (l : ℕ) → 2 * N ≤ l → marked part_cleared l ≡ marked ms l
    unfolding marked
    part_high l h = go (ℕ_discrete (l / 8) (N / 4))
      where
        go : Dec (l / 8 ≡ N / 4) → marked part_cleared l ≡ marked ms l
        go (yes e) = rw (e, part_byte) (high_kept (2 * (N % 4)) (get_or ms (N / 4) 0) (l % 8) (omega arith))
        go (no ne) = part_other l ne ∙ whole_high l (omega arith)

-- ---- marks counted
keep_parts :
    (p : ℕ → Bool) (start a b : ℕ)
    → length (keep p (range start (a + b))) ≡ length (keep p (range start a)) + length (keep p (range (start + a) b))
unfolding range keep
keep_parts p start zero b =
    let none : 0 + b ≡ b = omega arith in
    let here : start + 0 ≡ start = omega arith in
    rw (none, here) (omega arith)
keep_parts p start (suc a) b =
    let more : suc a + b ≡ suc (a + b) = omega arith in
    let here : start + suc a ≡ suc start + a = omega arith in
    let first : (n : ℕ) → length (keep p (start ∷ range (suc start) n)) ≡ bit (p start) + length (keep p (range (suc start) n)) =
    λ n. keep_first p start (range (suc start) n) in
    rw (more, here) (omega (arith, first (a + b), first a, keep_parts p (suc start) a b))

pub count_none : (p : ℕ → Bool) → length (keep p (below 0)) ≡ 0
unfolding below range keep
count_none p = refl

pub count_last : (ms : List ℕ) (i u : ℕ) → u ≤ 8
    → length (keep (marked ms) (below (8 * i + u))) ≡ length (keep (marked ms) (below (8 * i))) + ones (bit_and (get_or ms i 0) (2 ^ u - 1))
unfolding below
count_last ms i u few =
    keep_parts (marked ms) 0 (8 * i) u
    ∙ ap (λ (x : ℕ). length (keep (marked ms) (range 0 (8 * i))) + x) (sym (ones_kept u (get_or ms i 0) (0 + 8 * i) (marked ms) bits))
    ∙ ap (λ (x : ℕ). length (keep (marked ms) (range 0 (8 * i))) + ones x) (sym (and_mask (get_or ms i 0) u))
  where
    bits : (k : ℕ) → k < u → marked ms (0 + 8 * i + k) ≡ bit_of (get_or ms i 0) k
    bits k h = ap (λ (x : ℕ). marked ms (x + k)) (zero-add (8 * i)) ∙ marked_at ms i k (omega arith)

pub count_byte : (ms : List ℕ) (i : ℕ) → get_or ms i 0 < 256
    → length (keep (marked ms) (below (8 * (i + 1)))) ≡ length (keep (marked ms) (below (8 * i))) + ones (get_or ms i 0)
count_byte ms i low =
    let next : 8 * (i + 1) ≡ 8 * i + 8 = omega arith in
    ap (λ (n : ℕ). length (keep (marked ms) (below n))) next ∙ count_last ms i 8 (omega arith)
    ∙ ap (λ (x : ℕ). length (keep (marked ms) (below (8 * i))) + ones x) (and_mask (get_or ms i 0) 8 ∙ mod-eq_of_lt low)

pub ones_byte : (b : ℕ) → b < 256 → ones b ≤ 8
ones_byte b h = ones-le 8 b h

-- the marks of N atoms: whole bytes, and the last one masked
module _ (N : ℕ) (ms : List ℕ) where
  parts : 2 * N ≡ 8 * (N / 4) + 2 * (N % 4)
  parts = omega arith

  pub count_whole : 2 * (N % 4) ≡ 0 → length (keep (marked ms) (below (8 * (N / 4)))) + 0 ≡ length (marked_literals N ms)
  unfolding marked_literals
  count_whole e =
      let even : 8 * (N / 4) ≡ 2 * N = omega arith in
      let count = ap (λ (n : ℕ). length (keep (marked ms) (below n))) even in
      omega arith

  pub count_masked :
      length (keep (marked ms) (below (8 * (N / 4)))) + ones (bit_and (get_or ms (N / 4) 0) (1 * 2 ^ (2 * (N % 4)) % 256 - 1)) ≡ length (marked_literals N ms)
  unfolding marked_literals
  count_masked =
      ap (λ (x : ℕ). length (keep (marked ms) (below (8 * (N / 4)))) + ones (bit_and (get_or ms (N / 4) 0) (x - 1))) (bit_alone (2 * (N % 4)) (omega arith))
      ∙ sym (count_last ms (N / 4) (2 * (N % 4)) (omega arith)) ∙ ap (λ (n : ℕ). length (keep (marked ms) (below n))) (sym parts)

  pub masked_low : get_or ms (N / 4) 0 < 256 → ones (bit_and (get_or ms (N / 4) 0) (1 * 2 ^ (2 * (N % 4)) % 256 - 1)) ≤ 8
  masked_low low =
      let mask = 1 * 2 ^ (2 * (N % 4)) % 256 - 1 in
      ones_byte (bit_and (get_or ms (N / 4) 0) mask) (let z = and_le_l (get_or ms (N / 4) 0) mask in omega arith)

-- ---- the marks of a set
number_at : (f : ℕ → Bool) (d : Bool) (n k : ℕ) → k < n → get_or (map f (below n)) k d ≡ f k
number_at f d n k h = get_or_map_low f (below n) k 0 d (rw (below_count n) h) ∙ ap f (below_get_or n k h)

module _ (N : ℕ) (S ms : List ℕ) where
  pub marks_length : length (marks_of N S ms) ≡ mark_bytes N
  unfolding marks_of
  marks_length = table_length (mark_byte N S ms) (mark_bytes N)

  chosen : ℕ → Bool
  chosen l = cond (ltb l (2 * N)) (has S l) (marked ms l)

  byte_bit : (i k : ℕ) → k < 8 → bit_of (mark_byte N S ms i) k ≡ chosen (8 * i + k)
  unfolding mark_byte chosen
  byte_bit i k h = bit_byte (map (λ k. chosen (8 * i + k)) (below 8)) k ∙ number_at (λ k. chosen (8 * i + k)) false 8 k h

  -- the marks, with what comes after them
  unfoldable pub new_marks : List ℕ
  new_marks = marks_of N S ms ++ drop (mark_bytes N) ms

  new_front : (l : ℕ) → l / 8 < mark_bytes N → marked new_marks l ≡ chosen l
  unfolding marked new_marks marks_of
  new_front l h =
      let here : 8 * (l / 8) + l % 8 ≡ l = omega arith in
      ap (λ (b : ℕ). bit_of b (l % 8)) (get_or-append (marks_of N S ms) (drop (mark_bytes N) ms) 0 (l / 8) (rw marks_length h))
      ∙ ap (λ (b : ℕ). bit_of b (l % 8)) (table_at (mark_byte N S ms) (mark_bytes N) (l / 8) h) ∙ byte_bit (l / 8) (l % 8) (omega arith) ∙ ap chosen here

  pub new_low : (l : ℕ) → l < 2 * N → marked new_marks l ≡ has S l
  unfolding chosen
  new_low l h = new_front l (mark_inside N l h) ∙ rw (lt-ltb l (2 * N) h)

  pub new_high : (l : ℕ) → 2 * N ≤ l → marked new_marks l ≡ marked ms l
  unfolding chosen new_marks
  new_high l h = go (dec_lt (l / 8) (mark_bytes N))
    where
      go : Dec (l / 8 < mark_bytes N) → marked new_marks l ≡ marked ms l
      go (yes k) = new_front l k ∙ rw (le-ltb l (2 * N) h)
      go (no k) = marked_byte ms new_marks l (behind (marks_of N S ms) ms (mark_bytes N) (l / 8) marks_length (omega arith))

  new_byte_low : ((i : ℕ) → get_or ms i 0 < 256) → (i : ℕ) → get_or new_marks i 0 < 256
  unfolding new_marks marks_of mark_byte chosen below range
  new_byte_low low i = go (dec_lt i (mark_bytes N))
    where
      bits : List Bool
      bits = map (λ k. chosen (8 * i + k)) (below 8)

      go : Dec (i < mark_bytes N) → get_or new_marks i 0 < 256
      go (yes h) =
          rw (get_or-append (marks_of N S ms) (drop (mark_bytes N) ms) 0 i (rw marks_length h), table_at (mark_byte N S ms) (mark_bytes N) i h)
          (byte_below bits)
      go (no h) = rw (behind (marks_of N S ms) ms (mark_bytes N) i marks_length (omega arith)) (low i)

  -- marks that are the set's below 2N and as they were beyond
  pub marks_are :
      (new : List ℕ) → length new ≡ length ms → mark_bytes N ≤ length ms → ((i : ℕ) → get_or ms i 0 < 256) → ((i : ℕ) → get_or new i 0 < 256)
      → ((l : ℕ) → l < 2 * N → marked new l ≡ has S l) → ((l : ℕ) → 2 * N ≤ l → marked new l ≡ marked ms l) → new ≡ new_marks
  unfolding new_marks
  marks_are new size room low low' set rest =
      ext_get_or 0 new new_marks (size ∙ sym new_length) (λ i h. bytes_ext new_marks new i (new_byte_low low i) (low' i) (λ l e. same l (dec_lt l (2 * N))))
    where
      new_length : length new_marks ≡ length ms
      new_length = length_front ms (marks_of N S ms) (mark_bytes N) (marks_length ∙ sym (length-take-le (mark_bytes N) ms room))

      same : (l : ℕ) → Dec (l < 2 * N) → marked new l ≡ marked new_marks l
      same l (yes h) = set l h ∙ sym (new_low l h)
      same l (no h) = rest l (omega arith) ∙ sym (new_high l (omega arith))

  -- their literals, and those of the marks without what comes after them, are the set's
  low_same : {p q : ℕ → Bool} → ((l : ℕ) → l < 2 * N → p l ≡ q l) → keep p (below (2 * N)) ≡ keep q (below (2 * N))
  low_same {p} {q} same = keep_agree p q (below (2 * N)) (λ l m. same l (below_of (2 * N) m))

  pub new_literals : marked_literals N new_marks ≡ keep (has S) (below (2 * N))
  unfolding marked_literals
  new_literals = low_same new_low

  pub front_literals : marked_literals N (marks_of N S ms) ≡ keep (has S) (below (2 * N))
  unfolding marked_literals new_marks
  front_literals = low_same (λ l h. sym (front l (mark_inside N l h)) ∙ new_low l h)
    where
      front : (l : ℕ) → l / 8 < mark_bytes N → marked new_marks l ≡ marked (marks_of N S ms) l
      front l h =
          marked_byte (marks_of N S ms) new_marks l (get_or-append (marks_of N S ms) (drop (mark_bytes N) ms) 0 (l / 8) (rw marks_length h))
