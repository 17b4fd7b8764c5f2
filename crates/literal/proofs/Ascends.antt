-- Lists that ascend, as one walk: each word is at least the bound that the word before it sets, and the last is below a common bound. Assumes nothing.
use mathlib.Core.Path.{◌≡◌, refl, sym, ap, ◌∙◌}
use mathlib.Core.List.{List, [], ◌∷◌, map}
use mathlib.Core.Bool.{Bool, true, false, ◌&&◌, and-false}
use Prim.Native.Nat.{ℕ, ◌+◌, ◌*◌, ◌/◌, ◌≤◌, ◌<◌, zero-le}
use native.Mathlib.Omega.{arith}
use lib.Dec.{leb, ltb}
use borrow.Author.Tests.{lt-leb, le-leb, lt-ltb, leb-true, leb-false, ltb-true}
use Rattle.definitions.specs.Lists.{all, above, ascending}
use Rattle.definitions.specs.Literal.{atom, all_below, literal_list}
use Rattle.definitions.proofs.EncodeLaws.{same_bool_lem}
use Rattle.definitions.proofs.ListLaws.{and_right, and_both}

-- each word is at least `from`, which `next` makes of the word before; what it makes of the last is at most `bound`
abbrev pub ascends : (ℕ → ℕ) → ℕ → ℕ → List ℕ → Bool
ascends next bound from [] = leb from bound
ascends next bound from (x ∷ xs) = leb from x && ascends next bound (next x) xs

-- the least atom that may follow an atom, and the least literal that may follow a literal: that of the next atom
abbrev pub next_atom : ℕ → ℕ
next_atom a = a + 1

abbrev pub next_literal : ℕ → ℕ
next_literal l = l / 2 * 2 + 2

-- ---- each word below the bound
abbrev below : (ℕ → ℕ) → ℕ → ℕ → List ℕ → Bool
below next bound from [] = true
below next bound from (x ∷ xs) = leb from x && (ltb x bound && below next bound (next x) xs)

-- it is enough to ask of the last word, since the words grow
module _ (next : ℕ → ℕ) (bound : ℕ) (grows : (x : ℕ) → x < next x) (fits : (x : ℕ) → ltb x bound ≡ leb (next x) bound) where
  over : (from : ℕ) (xs : List ℕ) → bound < from → ascends next bound from xs ≡ false
  over from [] h = lt-leb from bound h
  over from (x ∷ xs) h = go (leb from x) refl (λ k. over (next x) xs k)
    where
      go :
          (b : Bool) → leb from x ≡ b → (bound < next x → ascends next bound (next x) xs ≡ false)
          → (b && ascends next bound (next x) xs) ≡ false
      go true e rec = let l = leb-true from x e in let g = grows x in rec (omega arith)
      go false e rec = refl

  below_last : (from : ℕ) (xs : List ℕ) → from ≤ bound → below next bound from xs ≡ ascends next bound from xs
  below_last from [] h = sym (le-leb from bound h)
  below_last from (x ∷ xs) h = ap (λ b. leb from x && b) (go (ltb x bound) refl (λ k. below_last (next x) xs k))
    where
      go :
          (b : Bool) → ltb x bound ≡ b → (next x ≤ bound → below next bound (next x) xs ≡ ascends next bound (next x) xs)
          → (b && below next bound (next x) xs) ≡ ascends next bound (next x) xs
      go true e rec = rec (leb-true (next x) bound (sym (fits x) ∙ e))
      go false e rec = sym (over (next x) xs (leb-false (next x) bound (sym (fits x) ∙ e)))

-- a part taken out of a conjunction
reorder : (a b c d : Bool) → (a && b && (c && d)) ≡ (a && (c && (b && d)))
reorder true true c d = refl
reorder true false true d = refl
reorder true false false d = refl
reorder false b c d = refl

next_atom_lem : (x y : ℕ) → ltb x y ≡ leb (next_atom x) y
next_atom_lem x y =
    same_bool_lem (ltb x y) (leb (next_atom x) y)
    (λ h. le-leb (next_atom x) y (let z = ltb-true x y h in omega arith))
    (λ h. lt-ltb x y (let z = leb-true (next_atom x) y h in omega arith))

atoms_above : (n x : ℕ) (xs : List ℕ) → (above x xs && all_below n xs) ≡ below next_atom n (next_atom x) xs
unfolding above all_below all
atoms_above n x [] = refl
atoms_above n x (y ∷ ys) =
    reorder (ltb x y) (above y ys) (ltb y n) (all_below n ys)
    ∙ rw (next_atom_lem x y, atoms_above n y ys)

atoms_below : (n : ℕ) (xs : List ℕ) → (ascending xs && all_below n xs) ≡ below next_atom n 0 xs
unfolding ascending all_below all
atoms_below n [] = refl
atoms_below n (x ∷ xs) = rw (le-leb 0 x zero-le) (go (ltb x n) (above x xs) (all_below n xs) (atoms_above n x xs))
  where
    go : (a b c : Bool) → (b && c) ≡ below next_atom n (next_atom x) xs → (b && (a && c)) ≡ (a && below next_atom n (next_atom x) xs)
    go true b c h = h
    go false true c h = refl
    go false false c h = refl

-- strictly ascending atoms below n
pub atoms_ascend : (n : ℕ) (xs : List ℕ) → (ascending xs && all_below n xs) ≡ ascends next_atom n 0 xs
atoms_ascend n xs = atoms_below n xs ∙ below_last next_atom n (λ x. omega arith) (λ x. next_atom_lem x n) 0 xs zero-le

next_literal_lem : (x y : ℕ) → (ltb x y && ltb (atom x) (atom y)) ≡ leb (next_literal x) y
unfolding atom
next_literal_lem x y =
    same_bool_lem (ltb x y && ltb (x / 2) (y / 2)) (leb (next_literal x) y)
    (λ h. le-leb (next_literal x) y (let z = ltb-true (x / 2) (y / 2) (and_right (ltb x y) (ltb (x / 2) (y / 2)) h) in omega arith))
    (λ h. let z = leb-true (next_literal x) y h in and_both (lt-ltb x y (omega arith)) (lt-ltb (x / 2) (y / 2) (omega arith)))

spread : (a b c d e f : Bool) → ((a && b) && (c && d) && (e && f)) ≡ ((a && e) && (c && (b && d && f)))
spread true b true d true f = refl
spread true b true d false f = and-false (b && d)
spread true b false d e f = rw (and-false b, and-false e)
spread false b c d e f = refl

literals_above : (n x : ℕ) (xs : List ℕ) → (above x xs && all_below n xs && above (atom x) (map atom xs)) ≡ below next_literal n (next_literal x) xs
unfolding above all_below all
literals_above n x [] = refl
literals_above n x (y ∷ ys) =
    spread (ltb x y) (above y ys) (ltb y n) (all_below n ys) (ltb (atom x) (atom y)) (above (atom y) (map atom ys))
    ∙ rw (next_literal_lem x y, literals_above n y ys)

literals_below : (n : ℕ) (xs : List ℕ) → literal_list n xs ≡ below next_literal (2 * n) 0 xs
unfolding literal_list ascending all_below all
literals_below n [] = refl
literals_below n (x ∷ xs) =
    rw (le-leb 0 x zero-le) (go (ltb x (2 * n)) (above x xs) (all_below (2 * n) xs) (above (atom x) (map atom xs)) (literals_above (2 * n) x xs))
  where
    go :
        (a b c d : Bool) → (b && c && d) ≡ below next_literal (2 * n) (next_literal x) xs
        → (b && (a && c) && d) ≡ (a && below next_literal (2 * n) (next_literal x) xs)
    go true b c d h = h
    go false true c d h = refl
    go false false c d h = refl

-- a literal is below 2n exactly if the next atom's is at most 2n
literal_fits : (n x : ℕ) → ltb x (2 * n) ≡ leb (next_literal x) (2 * n)
literal_fits n x =
    same_bool_lem (ltb x (2 * n)) (leb (next_literal x) (2 * n))
    (λ h. le-leb (next_literal x) (2 * n) (let z = ltb-true x (2 * n) h in omega arith))
    (λ h. lt-ltb x (2 * n) (let z = leb-true (next_literal x) (2 * n) h in omega arith))

-- literal lists
pub literals_ascend : (n : ℕ) (xs : List ℕ) → literal_list n xs ≡ ascends next_literal (2 * n) 0 xs
literals_ascend n xs = literals_below n xs ∙ below_last next_literal (2 * n) (λ x. omega arith) (literal_fits n) 0 xs zero-le
