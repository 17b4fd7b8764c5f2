-- A round limit that always suffices (document 02 §5): 1 plus the number of possible clauses. Assumes nothing.
use Rattle.std.specs.Prelude.{Bool, true, false, not, ◌≡◌, List, ℕ, ◌+◌, ◌-◌, ◌≤◌, ◌<◌, get_or}
use Rattle.definitions.specs.Lists.{all}
use Rattle.definitions.specs.Answer.{finding, number_of, Outcome}
use Rattle.definitions.specs.Image.{Task, read_task}
use Rattle.definitions.specs.Synthesis.{tested, passes, set_at, Made, synthesis_call}
use Rattle.definitions.specs.PossibleClauses.{possible_clauses, Counted, ClosedForms}

-- the bound on the rounds over N atoms
unfoldable pub round_bound : ℕ → ℕ → ℕ
round_bound N n = possible_clauses N n + 1

-- question 12 admits the bound as a limit for tasks of so many atoms
pub record Admitted (N : ℕ) : Type 0 where
  pub one : N ≤ 1024 → round_bound N 1 ≤ 65535
  pub two : N ≤ 181 → round_bound N 2 ≤ 65535
  pub three : N ≤ 37 → round_bound N 3 ≤ 65535

-- some clause fails in round r, which tests all of C(r-1) against itself
unfoldable pub fails_in : Task → ℕ → ℕ → Bool
fails_in t n r = not (all passes (tested t (set_at t n (r - 1))))

-- round r is the first in which no clause fails
pub record EndsIn (t : Task) (n r : ℕ) : Type 0 where
  pub some_round : 1 ≤ r
  pub before : (q : ℕ) → 1 ≤ q → q < r → fails_in t n q ≡ true
  pub here : fails_in t n r ≡ false

-- the rounds of the definition, which knows no limit
pub record RoundsEnd (t : Task) (n : ℕ) : Type 0 where
  -- if a clause fails in round r, then r is at most the number of possible clauses
  pub failing : (r : ℕ) → 1 ≤ r → fails_in t n r ≡ true → r ≤ possible_clauses t.atoms n
  -- so the first round without a failing clause comes at the bound at the latest
  pub last : ℕ
  pub ends : EndsIn t n last
  pub bounded : last ≤ round_bound t.atoms n

-- the calls on an image, whose first word is N, with given buffers
module _ (w : List ℕ) (n : ℕ) (old : List ℕ) (work marks : ℕ) where
  -- the call under a limit
  abbrev pub under : ℕ → Outcome Made
  under limit = synthesis_call w n limit old work marks

  pub record CallsEnd : Type 0 where
    -- a finding has the rounds of the definition
    pub ends : (t : Task) → read_task w ≡ finding t → (limit : ℕ) (m : Made) → (under limit).answer ≡ finding m → EndsIn t n m.rounds
    -- and they are within the bound
    pub bounded : (limit : ℕ) (m : Made) → (under limit).answer ≡ finding m → m.rounds ≤ round_bound (get_or w 0 0) n
    -- under a limit at or above the bound, 15 is never given
    pub enough : (limit : ℕ) → round_bound (get_or w 0 0) n ≤ limit → number_of (under limit).answer ≡ 15 → ⊥
    -- two limits that both give a finding give the same, and the same rows
    pub same : (limit other : ℕ) (l m : Made) → (under limit).answer ≡ finding l → (under other).answer ≡ finding m → under limit ≡ under other

-- for every task, every n and every call
pub record LimitSuffices : Type 0 where
  pub forms : (N : ℕ) → ClosedForms N
  pub counted : (N n : ℕ) → Counted N n
  pub admitted : (N : ℕ) → Admitted N
  pub rounds : (t : Task) (n : ℕ) → 1 ≤ n → RoundsEnd t n
  pub calls : (w : List ℕ) (n : ℕ) (old : List ℕ) (work marks : ℕ) → CallsEnd w n old work marks
