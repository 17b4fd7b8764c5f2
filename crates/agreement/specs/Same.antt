-- When two calls answer the same, as a test. Assumes nothing.
use Rattle.std.specs.Prelude.{Bool, true, false, not, ◌&&◌, cond, List, [], ◌∷◌, ◌≡◌, ℕ, eqb}
use Rattle.definitions.specs.Answer.{Refusal, Answer, finding, refused, Outcome}

-- the same question at the same places
unfoldable pub same_refusal : Refusal → Refusal → Bool
same_refusal r q = eqb r.number q.number && (eqb r.first q.first && eqb r.second q.second)

module _ {A : Type 0} (test : A → A → Bool) where
  -- both are findings, which pass the test, or both the same refusal
  unfoldable pub same_answer : Answer A → Answer A → Bool
  same_answer (finding x) (finding y) = test x y
  same_answer (finding x) (refused q) = false
  same_answer (refused r) (finding y) = false
  same_answer (refused r) (refused q) = same_refusal r q

  -- both are findings, which pass the test
  unfoldable pub both_found : Answer A → Answer A → Bool
  both_found (finding x) (finding y) = test x y
  both_found (finding x) (refused q) = false
  both_found (refused r) b = false

-- findings without a value are the same
unfoldable pub same_unit : Unit {0} → Unit {0} → Bool
same_unit x y = true

unfoldable pub same_bool : Bool → Bool → Bool
same_bool x y = cond x y (not y)

unfoldable pub same_list : List ℕ → List ℕ → Bool
same_list [] [] = true
same_list [] (y ∷ ys) = false
same_list (x ∷ xs) [] = false
same_list (x ∷ xs) (y ∷ ys) = let r = same_list xs ys in eqb x y && r

-- a call that found this list
unfoldable pub is_found : Answer (List ℕ) → List ℕ → Bool
is_found (finding x) y = same_list x y
is_found (refused r) y = false

-- two calls, each with a lent state: whether their answers are the same, and what they leave
pub record Both {A : Type 0} (same : Answer A → Answer A → Bool) (x y : Outcome A) (s v : List ℕ) (r : Bool) : Type 0 where
  pub answers : r ≡ same x.answer y.answer
  pub state : s ≡ x.lent
  pub values : v ≡ y.lent
