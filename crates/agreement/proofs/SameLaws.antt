-- Laws of the comparisons of answers and lists. Assumes nothing.
use mathlib.Core.Bool.{Bool, ◌&&◌, true, false, false≢true, true≢false}
use mathlib.Core.List.{List, [], ◌∷◌}
use mathlib.Core.Option.{Option, none, some}
use mathlib.Core.Path.{◌≡◌, refl, sym, ◌∙◌, ap, ap₂}
use Prim.Native.Nat.{ℕ}
use lib.Dec.{eqb}
use lib.Pointwise.{pointwise}
use borrow.Author.Tests.{eq-eqb, ne_eqb}
use Rattle.definitions.specs.Answer.{Refusal, Answer, finding, refused, refuse, verdict, Outcome, outcome, state_after, becomes}
use Rattle.definitions.proofs.ListLaws.{and_both}
use Rattle.definitions.specs.Lists.{all, first_fail}
use Rattle.definitions.proofs.AnswerLaws.{not_finding}
use Rattle.definitions.proofs.FirstFail.{none_all, all_none_lem}
use Rattle.checker.specs.Search.{false_answer}
use Rattle.definitions.proofs.AnswerLaws.{answer_of, lent_of, answered, left}
use Rattle.agreement.specs.Same.{same_refusal, same_answer, both_found, same_unit, same_bool, same_list, is_found, Both}

-- ---- what a tested call says
module _ {r b : Bool} (said : r ≡ b) where
  pub said_no : r ≡ false → b ≡ false
  said_no h = sym said ∙ h

  pub said_yes : r ≡ true → b ≡ true
  said_yes h = sym said ∙ h

-- ---- tests in a row: v is what the tests so far say, q is left, r all of them
module _ (q : Bool) {v r : Bool} (so_far : (v && q) ≡ r) where
  pub last_test : v ≡ true → q ≡ r
  last_test h = rw h at so_far

  pub test_fails : v ≡ false → v ≡ r
  test_fails h = h ∙ (rw h at so_far)

-- the next test p is made, if those before it hold
module _ (p q : Bool) {b r v : Bool} (so_far : (b && (p && q)) ≡ r) where
  pub test_made : b ≡ true → v ≡ p → (v && q) ≡ r
  test_made h e = rw e (rw h at so_far)

  pub test_left : b ≡ false → v ≡ false → (v && q) ≡ r
  test_left h e = rw e (rw h at so_far)

-- ---- no clause is the lowest that is false, or one is
module _ (p : List ℕ → Bool) (C : List (List ℕ)) where
  pub holds_all : finding tt ≡ false_answer (first_fail p 0 C) → true ≡ all p C
  unfolding false_answer refuse
  holds_all h = go (first_fail p 0 C) refl h
    where
      go : (o : Option ℕ) → first_fail p 0 C ≡ o → finding tt ≡ false_answer o → true ≡ all p C
      go none e h = sym (none_all p 0 C e)
      go (some i) e h = absurd (not_finding (sym h))

  pub not_all : (r : Refusal) → refused r ≡ false_answer (first_fail p 0 C) → false ≡ all p C
  unfolding false_answer
  not_all r h = go (all p C) refl
    where
      go : (b : Bool) → all p C ≡ b → false ≡ b
      go true e = absurd (not_finding (h ∙ ap false_answer (all_none_lem p [] 0 C e)))
      go false e = refl

-- ---- refusals, by the first number that differs
module _ (r q : Refusal) where
  pub refusal_number : (r.number ≡ q.number → ⊥) → false ≡ same_refusal r q
  unfolding same_refusal
  refusal_number h = rw (ne_eqb r.number q.number h)

  pub refusal_first : r.number ≡ q.number → (r.first ≡ q.first → ⊥) → false ≡ same_refusal r q
  unfolding same_refusal
  refusal_first e h = rw (eq-eqb r.number q.number e, ne_eqb r.first q.first h)

  pub refusal_second : r.number ≡ q.number → r.first ≡ q.first → eqb r.second q.second ≡ same_refusal r q
  unfolding same_refusal
  refusal_second e f = rw (eq-eqb r.number q.number e, eq-eqb r.first q.first f)

-- ---- what is the same passes
refusal_self : (r : Refusal) → same_refusal r r ≡ true
unfolding same_refusal
refusal_self r = rw (eq-eqb r.number r.number refl, eq-eqb r.first r.first refl, eq-eqb r.second r.second refl)

pub answer_self : {A : Type 0} (test : A → A → Bool) → ((x : A) → test x x ≡ true) → (a : Answer A) → same_answer test a a ≡ true
unfolding same_answer
answer_self test self (finding x) = self x
answer_self test self (refused r) = refusal_self r

pub unit_self : (u : Unit {0}) → same_unit u u ≡ true
unfolding same_unit
unit_self u = refl

pub bool_self : (b : Bool) → same_bool b b ≡ true
unfolding same_bool
bool_self true = refl
bool_self false = refl

pub list_self : (xs : List ℕ) → same_list xs xs ≡ true
unfolding same_list
list_self [] = refl
list_self (x ∷ xs) = and_both (eq-eqb x x refl) (list_self xs)

pub found_self : (m : Answer (List ℕ)) (x : List ℕ) → m ≡ finding x → is_found m x ≡ true
unfolding is_found
found_self m x e = rw e (list_self x)

-- ---- what `==` says of two lists
pub list_compared : (a b : List ℕ) → pointwise eqb a b ≡ same_list a b
unfolding same_list
list_compared [] [] = refl
list_compared [] (y ∷ b) = refl
list_compared (x ∷ a) [] = refl
list_compared (x ∷ a) (y ∷ b) = ap (λ r. eqb x y && r) (list_compared a b)

-- ---- two calls whose answers are compared
module _ {A : Type 0} (same : Answer A → Answer A → Bool) (a b : Answer A) (s v : List ℕ) (x y : Outcome A) (r : Bool) where
  pub both_made : outcome a s ≡ x → outcome b v ≡ y → r ≡ same a b → Both same x y s v r
  both_made p q h = record { answers = h ∙ ap₂ same (answer_of a s x p) (answer_of b v y q); state = lent_of a s x p; values = lent_of b v y q }

-- a coding that was refused, or found what it left in its target
module _ (m n : Answer (List ℕ)) (x s s' : List ℕ) (same : m ≡ n) where
  pub coding_refused : (r : Refusal) → outcome (refused r) s' ≡ becomes s m → false ≡ is_found n x
  unfolding is_found verdict
  coding_refused r h = go m (answered (refused r) s s' m h) ∙ ap (λ (z : Answer (List ℕ)). is_found z x) same
    where
      go : (m : Answer (List ℕ)) → refused r ≡ verdict m → false ≡ is_found m x
      go (finding y) e = absurd (not_finding e)
      go (refused q) e = refl

  pub coding_found : outcome (finding tt) s' ≡ becomes s m → same_list s' x ≡ is_found n x
  unfolding is_found verdict state_after
  coding_found h =
      go m (answered (finding tt) s s' m h) (left (finding tt) s s' m h)
      ∙ ap (λ (z : Answer (List ℕ)). is_found z x) same
    where
      go : (m : Answer (List ℕ)) → finding tt ≡ verdict m → s' ≡ state_after s m → same_list s' x ≡ is_found m x
      go (finding y) e l = ap (λ (z : List ℕ). same_list z x) l
      go (refused q) e l = absurd (not_finding (sym e))

-- ---- a test of what two calls found, after both were made
module _ (m n : Answer (List ℕ)) (test : List ℕ → List ℕ → Bool) (s v s' v' : List ℕ) (fine : Bool)
    (made : Both (both_found same_unit) (becomes s m) (becomes v n) s' v' fine) where
  pub not_found : fine ≡ false → false ≡ both_found test m n
  unfolding both_found same_unit becomes outcome verdict
  not_found h = go m n (sym made.answers ∙ h)
    where
      go : (m n : Answer (List ℕ)) → both_found same_unit (verdict m) (verdict n) ≡ false → false ≡ both_found test m n
      go (finding x) (finding y) h = absurd (true≢false h)
      go (finding x) (refused q) h = refl
      go (refused r) y h = refl

  pub are_found : fine ≡ true → test s' v' ≡ both_found test m n
  unfolding both_found same_unit becomes outcome verdict state_after
  are_found h = go m n (sym made.answers ∙ h) made.state made.values
    where
      go :
          (m n : Answer (List ℕ)) → both_found same_unit (verdict m) (verdict n) ≡ true
          → s' ≡ state_after s m → v' ≡ state_after v n → test s' v' ≡ both_found test m n
      go (finding x) (finding y) h es ev = ap₂ test es ev
      go (finding x) (refused q) h es ev = absurd (false≢true h)
      go (refused r) (finding y) h es ev = absurd (false≢true h)
      go (refused r) (refused q) h es ev = absurd (false≢true h)
