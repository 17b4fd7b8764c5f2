-- The places that refusals 10 and 11 name (document 02 §2), stated. Assumes nothing.
use Rattle.std.specs.Prelude.{Bool, true, false, List, [], ◌≡◌, ℕ, ◌≤◌, ◌<◌, length, get_or}
use Rattle.definitions.specs.Answer.{finding, refuse}
use Rattle.definitions.specs.Literal.{holds_in}
use Rattle.definitions.specs.Image.{Task, initial_state, read_task}
use Rattle.definitions.specs.Step.{operator_at}
use Rattle.definitions.specs.Clauses.{read_clauses}
use Rattle.definitions.specs.Kept.{kept}
use Rattle.definitions.specs.Checker.{check}
use Rattle.definitions.specs.Groups.{groups_call}
use Rattle.definitions.specs.Encoding.{encode_call}
use Rattle.definitions.specs.Marks.{mark_bytes}

module _ (t : Task) (C : List (List ℕ)) where
  -- clause i holds initially
  unfoldable pub true_at : ℕ → Bool
  true_at i = holds_in (initial_state t) (get_or C i [])

  -- clause i is kept by C under operator j
  unfoldable pub kept_at : ℕ → ℕ → Bool
  kept_at i j = kept t.atoms C (operator_at t j) (get_or C i [])

  -- clause i is the lowest false clause
  pub record LowestFalse (i : ℕ) : Type 0 where
    pub inside : i < length C
    pub before : (k : ℕ) → k < i → true_at k ≡ true
    pub false_here : true_at i ≡ false

  -- clause i is the lowest clause that is not kept, and operator j the lowest under which it is not
  pub record LowestNotKept (i j : ℕ) : Type 0 where
    pub clause_inside : i < length C
    pub operator_inside : j < length t.operators
    pub clauses_before : (k o : ℕ) → k < i → o < length t.operators → kept_at k o ≡ true
    pub operators_before : (o : ℕ) → o < j → kept_at i o ≡ true
    pub not_kept : kept_at i j ≡ false

  -- every clause holds initially
  abbrev pub AllTrue : Type 0
  AllTrue = (k : ℕ) → k < length C → true_at k ≡ true

-- questions 1 to 9 find the task t in the image w and the clauses C in the clause words c
pub record ReadAs (w c : List ℕ) (t : Task) (C : List (List ℕ)) : Type 0 where
  pub task : read_task w ≡ finding t
  pub clauses : read_clauses t.atoms c ≡ finding C

-- the checker, groups or re-encoding refuses with question q at places i and j, whatever its marks and its target
pub data Refuses (w c : List ℕ) (q i j : ℕ) : Type 0 where
  by_checker : (marks : ℕ) → check w c marks ≡ refuse q i j → Refuses w c q i j
  by_groups : (marks target : ℕ) → groups_call w c marks target ≡ refuse q i j → Refuses w c q i j
  by_reencoding : (marks target : ℕ) → encode_call w c marks target ≡ refuse q i j → Refuses w c q i j

-- "Refusal 10 now names the lowest false clause."
pub record Refused10 (w c : List ℕ) (i j : ℕ) : Type 0 where
  pub task : Task
  pub clauses : List (List ℕ)
  pub read : ReadAs w c task clauses
  pub lowest : LowestFalse task clauses i
  pub no_second : j ≡ 0

-- "Refusal 11 names the lowest clause that is not kept, and under it the lowest operator."
pub record Refused11 (w c : List ℕ) (i j : ℕ) : Type 0 where
  pub task : Task
  pub clauses : List (List ℕ)
  pub read : ReadAs w c task clauses
  pub all_true_lem : AllTrue task clauses
  pub lowest : LowestNotKept task clauses i j

-- all three refuse so with these marks, whatever the target
pub record AllRefuse (w c : List ℕ) (marks q i j : ℕ) : Type 0 where
  pub checker : check w c marks ≡ refuse q i j
  pub groups : (target : ℕ) → groups_call w c marks target ≡ refuse q i j
  pub reencoding : (target : ℕ) → encode_call w c marks target ≡ refuse q i j

-- of every image and all clause words: what is named is the lowest, and the lowest is named
pub record LowestPlaces : Type 0 where
  pub at_10 : (w c : List ℕ) (i j : ℕ) → Refuses w c 10 i j → Refused10 w c i j
  pub at_11 : (w c : List ℕ) (i j : ℕ) → Refuses w c 11 i j → Refused11 w c i j
  pub finds_false :
      (w c : List ℕ) (marks : ℕ) (t : Task) (C : List (List ℕ)) → ReadAs w c t C → mark_bytes t.atoms ≤ marks → (i : ℕ) → LowestFalse t C i
      → AllRefuse w c marks 10 i 0
  pub finds_not_kept :
      (w c : List ℕ) (marks : ℕ) (t : Task) (C : List (List ℕ)) → ReadAs w c t C → mark_bytes t.atoms ≤ marks → AllTrue t C → (i j : ℕ)
      → LowestNotKept t C i j → AllRefuse w c marks 11 i j
