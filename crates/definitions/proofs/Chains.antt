-- The answers of `all` and `any` of an iterator, as the definitions' tests of the list that it yields. Assumes nothing.
use mathlib.Core.Bool.{Bool, true, false, ◌&&◌, ◌||◌}
use mathlib.Core.Path.{◌≡◌, refl, ap, ◌∙◌}
use mathlib.Core.List.{List, [], ◌∷◌}
use denote.Param.Members.{Mut}
use Rattle.std.proofs.Common.{Option}
use Rattle.std.specs.List.{list_all, list_any, FoldsTo}
use Rattle.std.specs.Fn.{Called}
use Rattle.std.specs.Iterator.{YieldsThen}
use Rattle.std.specs.Option.{MatchOption}
use Rattle.std.proofs.lemmas.Iterator.{YieldsList}
use Rattle.std.proofs.lemmas.Iterator.Search.{all_from_yields_List, any_from_yields_List}
use Rattle.definitions.specs.Lists.{all, any}

module _ {A : Type 0} (p : A → Bool) where
  pub all_listed : (xs : List A) → list_all p xs ≡ all p xs
  unfolding all
  all_listed [] = refl
  all_listed (x ∷ xs) = ap (λ r. p x && r) (all_listed xs)

  pub any_listed : (xs : List A) → list_any p xs ≡ any p xs
  unfolding any
  any_listed [] = refl
  any_listed (x ∷ xs) = ap (λ r. p x || r) (any_listed xs)

-- `test` is what the closure computes of an item
module _ {S A B F : Type 0} {steps : S → Option A → S → Type 0} {v : A → B} {g : Mut F (A × Unit {0}) Bool} {s : S} {r : Bool} {xs : List B}
    (test : B → Bool) (u : S) (f : F) where
  pub all_of : (ys : List A) × (o : Option A) × (j : F) × YieldsThen steps s ys o u × FoldsTo (λ p x q. Called g p (x, tt) true q) f ys j
      × MatchOption o (r ≡ true) (λ x. (r ≡ false) × ((h : F) × Called g j (x, tt) false h))
      → YieldsList steps v s xs → ((x : A) (b : Bool) (q : F) → Called g f (x, tt) b q → (q ≡ f) × (b ≡ test (v x))) → r ≡ all test xs
  all_of ran yields closure = all_from_yields_List test u f r ran yields closure ∙ all_listed test xs

  pub any_of : (ys : List A) × (o : Option A) × (j : F) × YieldsThen steps s ys o u × FoldsTo (λ p x q. Called g p (x, tt) false q) f ys j
      × MatchOption o (r ≡ false) (λ x. (r ≡ true) × ((h : F) × Called g j (x, tt) true h))
      → YieldsList steps v s xs → ((x : A) (b : Bool) (q : F) → Called g f (x, tt) b q → (q ≡ f) × (b ≡ test (v x))) → r ≡ any test xs
  any_of ran yields closure = any_from_yields_List test u f r ran yields closure ∙ any_listed test xs
