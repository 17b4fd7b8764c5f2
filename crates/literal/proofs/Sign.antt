-- The sign of a literal: laws of the literal of an atom and a sign. Assumes nothing.
use Prim.Native.Nat.{ℕ}
use mathlib.Core.Path.{◌≡◌, refl, sym, ap, ◌∙◌}
use mathlib.Core.Bool.{Bool, true, false, beq}
use lib.Dec.{eqb}
use borrow.Author.Tests.{eqb-false}
use Rattle.definitions.specs.Literal.{atom, positive}
use Rattle.definitions.proofs.LiteralLaws.{Shape, is, isnt, shape, atom_even, atom_odd, positive_even, positive_odd}
use Rattle.literal.specs.Literal.{literal_of, has_sign}

pub literal_atom : (a : ℕ) (b : Bool) → atom (literal_of a b) ≡ a
literal_atom a true = atom_even a
literal_atom a false = atom_odd a

pub literal_positive : (a : ℕ) (b : Bool) → positive (literal_of a b) ≡ b
literal_positive a true = positive_even a
literal_positive a false = positive_odd a

literal_same : (l : ℕ) → literal_of (atom l) (positive l) ≡ l
literal_same l = go (shape l)
  where
    go : Shape l → literal_of (atom l) (positive l) ≡ l
    go (is l a e x y c) = rw (x, y) (sym e)
    go (isnt l a e x y c) = rw (x, y) (sym e)

sign_is : (l : ℕ) (b : Bool) → has_sign b l ≡ true → positive l ≡ b
unfolding has_sign
sign_is l b h = go (positive l) b h
  where
    go : (x y : Bool) → beq x y ≡ true → x ≡ y
    go true true e = refl
    go false false e = refl
    go true false e = sym e
    go false true e = e

pub sign_self : (l : ℕ) → has_sign (positive l) l ≡ true
unfolding has_sign
sign_self l = go (positive l)
  where
    go : (x : Bool) → beq x x ≡ true
    go true = refl
    go false = refl

pub sign_own : (a : ℕ) (b : Bool) → has_sign b (literal_of a b) ≡ true
sign_own a b = ap (λ (x : Bool). has_sign x (literal_of a b)) (sym (literal_positive a b)) ∙ sign_self (literal_of a b)

-- of literals with one sign, another one has another atom
pub other_atom : (a e : ℕ) (b : Bool) → has_sign b e ≡ true → eqb (literal_of a b) e ≡ false → a ≡ atom e → ⊥
other_atom a e b h k same =
    eqb-false (literal_of a b) e k
    (ap (λ (x : ℕ). literal_of x b) same ∙ ap (literal_of (atom e)) (sym (sign_is e b h)) ∙ literal_same e)
