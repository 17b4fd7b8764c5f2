-- What `is_ok` of a call's answer says. Assumes nothing.
use mathlib.Core.Bool.{Bool, true, false, beq}
use mathlib.Core.List.{List}
use mathlib.Core.Path.{◌≡◌, refl}
use Prim.Native.Nat.{ℕ}
use Rattle.std.specs.Result.{is_ok}
use Rattle.std.proofs.Common.{Result, Ok, Err}
use Rattle.definitions.specs.Answer.{finding, refused}
use Rattle.definitions.specs.Lists.{all, first_fail}
use Rattle.answer.specs.declared.Refusal.{Refusal}
use Rattle.answer.specs.Answer.{placed, answer_of}
use Rattle.checker.specs.Search.{false_answer}
use Rattle.agreement.specs.Same.{both_found, same_unit, same_bool}
use Rattle.agreement.proofs.SameLaws.{holds_all, not_all}

pub same_beq : (x y : Bool) → beq x y ≡ same_bool x y
unfolding same_bool
same_beq true true = refl
same_beq true false = refl
same_beq false true = refl
same_beq false false = refl

pub second_ok : (a b : Result (Unit {0}) Refusal) → is_ok a ≡ true → is_ok b ≡ both_found same_unit (answer_of a) (answer_of b)
unfolding both_found same_unit
second_ok (Ok u) (Ok v) h = refl
second_ok (Ok u) (Err g) h = refl
second_ok (Err f) b h = cc

pub first_not_ok : (a b : Result (Unit {0}) Refusal) → is_ok a ≡ false → false ≡ both_found same_unit (answer_of a) (answer_of b)
unfolding both_found
first_not_ok (Ok u) b h = cc
first_not_ok (Err f) b h = refl

pub ok_answer : (a : Result (Unit {0}) Refusal) → is_ok a ≡ true → answer_of a ≡ finding tt
ok_answer (Ok u) h = refl
ok_answer (Err f) h = cc

pub err_answer : (a : Result (Unit {0}) Refusal) → is_ok a ≡ false → (f : Refusal) × (answer_of a ≡ refused (placed f))
err_answer (Ok u) h = absurd (cc)
err_answer (Err f) h = (f, refl)

-- a call that asks 10 of clauses
pub ok_held :
    (p : List ℕ → Bool) (xs : List (List ℕ)) (a : Result (Unit {0}) Refusal) → answer_of a ≡ false_answer (first_fail p 0 xs) → is_ok a ≡ all p xs
ok_held p xs (Ok u) e = holds_all p xs e
ok_held p xs (Err f) e = not_all p xs (placed f) e
