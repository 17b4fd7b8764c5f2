-- Bounds on the bytes of numbers, of lines and of lines one after the other. Assumes nothing.
use mathlib.Core.Path.{◌≡◌, refl, ap}
use mathlib.Core.List.{List, [], ◌∷◌, ◌++◌, map, Memᴰ}
use Prim.Native.Nat.{ℕ, zero, suc, ◌+◌, ◌*◌, ◌/◌, ◌%◌, ◌≤◌, ◌<◌}
use native.Mathlib.Omega.{arith}
use native.Mathlib.Nat.{mul-suc}
use lib.ListN.{length, length-append}
use Rattle.definitions.specs.Lists.{each}
use Rattle.definitions.specs.Text.{digits, decimal, line}
use Rattle.text.specs.Fields.{separator, fields_from}
use Rattle.text.proofs.Digits.{digits_one, digits_more}
use Rattle.text.proofs.Lines.{line_fields}

-- ---- numbers
unfoldable tens : ℕ → ℕ
tens zero = 1
tens (suc m) = 10 * tens m

digits_most : (k n : ℕ) (rest : List ℕ) → length (digits k n rest) ≤ k + length rest
unfolding digits
digits_most zero n rest = omega arith
digits_most (suc k) n rest = go (n / 10) refl (digits_most k (n / 10) ((48 + n % 10) ∷ rest))
  where
    go : (m : ℕ) → n / 10 ≡ m → length (digits k (n / 10) ((48 + n % 10) ∷ rest)) ≤ k + suc (length rest) → length (digits (suc k) n rest) ≤ suc k + length rest
    go zero e rec = let q = ap length (digits_one k n rest e) in omega arith
    go (suc m) e rec = let q = ap length (digits_more k n rest (λ z. omega arith)) in omega arith

tens_part : (n p : ℕ) → n < 10 * p → n / 10 < p
tens_part n p h = omega arith

digits_short : (k m n : ℕ) (rest : List ℕ) → n < tens (suc m) → length (digits k n rest) ≤ suc m + length rest
unfolding digits tens
digits_short zero m n rest h = omega arith
digits_short (suc k) m n rest h = go (n / 10) refl m h (λ p l. digits_short k p (n / 10) ((48 + n % 10) ∷ rest) l)
  where
    go :
        (q : ℕ) → n / 10 ≡ q → (m : ℕ) → n < tens (suc m)
        → ((p : ℕ) → n / 10 < tens (suc p) → length (digits k (n / 10) ((48 + n % 10) ∷ rest)) ≤ suc p + suc (length rest))
        → length (digits (suc k) n rest) ≤ suc m + length rest
    go zero e m h rec = let q = ap length (digits_one k n rest e) in omega arith
    go (suc q) e zero h rec = let l = tens_part n 1 h in absurd (omega arith)
    go (suc q) e (suc m) h rec =
        let z = ap length (digits_more k n rest (λ w. omega arith)) in
        let r = rec m (tens_part n (tens (suc m)) h) in
        omega arith

pub decimal_most : (n : ℕ) → length (decimal n) ≤ 20
unfolding decimal
decimal_most n = digits_most 20 n []

pub decimal_atom : (a : ℕ) → a < 1024 → length (decimal a) ≤ 4
unfolding decimal tens
decimal_atom a h = let l : a < 10000 = omega arith in digits_short 20 3 a [] l

-- ---- lines
separator_size : (i : ℕ) → length (separator i) ≤ 1
unfolding separator
separator_size zero = omega arith
separator_size (suc i) = omega arith

-- no field is longer than b
abbrev pub Short : ℕ → List (List ℕ) → Type 0
Short b [] = Unit {0}
Short b (x ∷ xs) = (length x ≤ b) × Short b xs

fields_size : (b i : ℕ) (xs : List (List ℕ)) → Short b xs → length (fields_from i xs) ≤ suc b * length xs + 1
unfolding fields_from
fields_size b i [] h = omega arith
fields_size b i (x ∷ xs) h =
    let r = fields_size b (suc i) xs h.1 in
    let l = h.0 in
    let s = separator_size i in
    let p = length-append x (fields_from (suc i) xs) in
    let q = length-append (separator i) (x ++ fields_from (suc i) xs) in
    let m = mul-suc (suc b) (length xs) in
    omega arith

pub line_size : (b : ℕ) (xs : List (List ℕ)) → Short b xs → length (line xs) ≤ suc b * length xs + 1
line_size b xs h = rw (line_fields xs) (fields_size b 0 xs h)

pub short_map : (f : ℕ → List ℕ) (b : ℕ) (xs : List ℕ) → ((x : ℕ) → Memᴰ x xs → length (f x) ≤ b) → Short b (map f xs)
short_map f b [] h = tt
short_map f b (x ∷ xs) h = (h x (Memᴰ.head refl), short_map f b xs (λ y m. h y (Memᴰ.tail m)))

pub short_both : (b : ℕ) (xs ys : List (List ℕ)) → Short b xs → Short b ys → Short b (xs ++ ys)
short_both b [] ys h k = k
short_both b (x ∷ xs) ys h k = (h.0, short_both b xs ys h.1 k)

pub each_size : {A : Type 0} (f : A → List ℕ) (b : ℕ) (xs : List A) → ((x : A) → Memᴰ x xs → length (f x) ≤ b) → length (each f xs) ≤ b * length xs
unfolding each
each_size f b [] h = omega arith
each_size f b (x ∷ xs) h =
    let r = each_size f b xs (λ y m. h y (Memᴰ.tail m)) in
    let l = h x (Memᴰ.head refl) in
    let p = length-append (f x) (each f xs) in
    let m = mul-suc b (length xs) in
    omega arith

pub map_length : {A B : Type 0} (f : A → B) (xs : List A) → length (map f xs) ≡ length xs
map_length f [] = refl
map_length f (x ∷ xs) = ap suc (map_length f xs)
