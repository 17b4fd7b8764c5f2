-- The checker's questions one after the other. Assumes nothing.
use mathlib.Core.Bool.{Bool, true, false}
use mathlib.Core.Option.{Option, none, some}
use mathlib.Core.Path.{◌≡◌, refl, sym, ◌∙◌, ap, subst}
use mathlib.Core.List.{List}
use Prim.Native.Nat.{ℕ, ◌+◌, ◌≤◌, ◌<◌}
use native.Mathlib.Numerals.{add-one}
use lib.Dec.{leb}
use lib.ListN.{length, get_or, drop, drop_of_length-le}
use Rattle.definitions.specs.Lists.{first_fail}
use Rattle.definitions.specs.Answer.{Refusal, Answer, finding, refused, refuse, verdict, ask, ask_at, ◌>>=◌}
use Rattle.definitions.specs.Literal.{most_atoms, holds_in}
use Rattle.definitions.specs.Image.{Task, initial_state}
use Rattle.definitions.specs.Checker.{ask_true, ask_kept, accept, Accepted, check}
use Rattle.definitions.specs.Marks.{mark_bytes}
use Rattle.definitions.proofs.Walks.{left_here}
use Rattle.clause.specs.Rows.{clauses_of, ClausesRead}
use Rattle.task.specs.Reads.{task_of}
use Rattle.reading.specs.Reading.{read_both, BothRead}
use Rattle.reading.proofs.Questions.{both_refused}
use Rattle.judge.specs.Promise.{Read}
use Rattle.checker.specs.Search.{false_answer}

-- ---- the walk to the first element that fails
module _ {A : Type 0} (p : A → Bool) (xs : List A) (i : ℕ) where
  first_left : (d x : A) → x ≡ get_or xs i d → i < length xs → p x ≡ false → first_fail p i (drop i xs) ≡ some i
  unfolding first_fail
  first_left d x at inside h = rw (left_here xs i d x at inside, first_fail, h)

  first_on : (d x : A) → x ≡ get_or xs i d → i < length xs → p x ≡ true → first_fail p i (drop i xs) ≡ first_fail p (i + 1) (drop (i + 1) xs)
  unfolding first_fail
  first_on d x at inside h = ap (first_fail p i) (left_here xs i d x at inside) ∙ rw (h, first_fail, add-one)

  first_end : length xs ≤ i → first_fail p i (drop i xs) ≡ none
  unfolding first_fail
  first_end past = rw (drop_of_length-le xs {i = i} past)

  -- question 10 of element i, then of the others
  pub first_asked :
      (d x : A) → x ≡ get_or xs i d → i < length xs
      → false_answer (first_fail p i (drop i xs)) ≡ (ask_at 10 i (p x) >>= λ _. false_answer (first_fail p (i + 1) (drop (i + 1) xs)))
  unfolding false_answer refuse ask_at ◌>>=◌
  first_asked d x at inside = go (p x) refl
    where
      go :
          (b : Bool) → p x ≡ b
          → false_answer (first_fail p i (drop i xs)) ≡ (ask_at 10 i b >>= λ _. false_answer (first_fail p (i + 1) (drop (i + 1) xs)))
      go true h = ap false_answer (first_on d x at inside h)
      go false h = ap false_answer (first_left d x at inside h)

  pub none_asked : length xs ≤ i → finding tt ≡ false_answer (first_fail p i (drop i xs))
  unfolding false_answer
  none_asked past = rw (first_end past)

pub false_true : (t : Task) (C : List (List ℕ)) (s : List ℕ) → s ≡ initial_state t → false_answer (first_fail (holds_in s) 0 C) ≡ ask_true t C
unfolding false_answer ask_true
false_true t C s h = rw h (go (first_fail (holds_in (initial_state t)) 0 C))
  where
    go : (x : Option ℕ) → false_answer x ≡ elim x [ none ↦ finding tt | some i ↦ refuse 10 i 0 ]
    go none = refl
    go (some i) = refl

-- what is read, of a number of atoms
pub read_of_both : (w c : List ℕ) → BothRead w c → (atoms : ℕ) → atoms ≡ (task_of w).atoms → atoms ≤ most_atoms → Read w c atoms
read_of_both w c both atoms counted few =
    record {
      task = both.task;
      counted = counted;
      few = few;
      clauses = subst (λ (k : ℕ). ClausesRead k c) (sym counted) both.clauses;
    }

-- ---- the questions one after the other
module _ (w c : List ℕ) (marks : ℕ) where
  pub check_both : (r : Refusal) → refused r ≡ verdict (read_both w c) → refused r ≡ verdict (check w c marks)
  unfolding check ◌>>=◌ verdict
  check_both r h = sym (ap verdict (both_refused w c _ r h))

  module _ (both : BothRead w c) where
    -- after questions 1 to 9: 13, 10 and 11
    pub check_asks :
        (ask 13 (leb (mark_bytes (task_of w).atoms) marks) >>= λ _. ask_true (task_of w) (clauses_of c)
        >>= λ _. ask_kept (task_of w) (clauses_of c) 0 (clauses_of c)) ≡ verdict (check w c marks)
    unfolding check accept verdict ◌>>=◌
    check_asks =
        rw (both.task.found, both.clauses.read)
        (go (ask 13 (leb (mark_bytes (task_of w).atoms) marks)) (ask_true (task_of w) (clauses_of c))
        (ask_kept (task_of w) (clauses_of c) 0 (clauses_of c)))
      where
        x : Accepted
        x = record { task = task_of w; clauses = clauses_of c }

        go :
            (a b d : Answer (Unit {0}))
            → (a >>= λ _. b >>= λ _. d) ≡ verdict (a >>= λ _. (b >>= λ _. d) >>= λ _. finding x)
        go (finding _) (finding _) (finding tt) = refl
        go (finding _) (finding _) (refused r) = refl
        go (finding _) (refused r) d = refl
        go (refused r) b d = refl
