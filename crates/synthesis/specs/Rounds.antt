-- What the functions of this crate ask and promise of one another. Assumes nothing.
use Rattle.std.specs.Prelude.{Bool, true, false, List, [], ◌∷◌, ◌++◌, map, ◌≡◌, ℕ, ◌+◌, ◌-◌, ◌*◌, ◌≤◌, length, get_or, take, replicate}
use Rattle.definitions.specs.Lists.{all, range}
use Rattle.definitions.specs.Answer.{Outcome, finding, refused, outcome}
use Rattle.definitions.specs.Literal.{most_atoms}
use Rattle.definitions.specs.Image.{Task}
use Rattle.definitions.specs.Clauses.{width, most_rows, clause_words}
use Rattle.definitions.specs.Synthesis.{first_set, tested, passes, next, fits, Made}
use Rattle.definitions.specs.Marks.{mark_bytes}
use Rattle.answer.specs.Answer.{refusal_at}
use Rattle.task.specs.Reads.{task_of, Reads}
use Rattle.clause_set.specs.Held.{held, Room}
use Rattle.std.specs.Prelude as std
use Rattle.next_set.specs.Post.{Round}
use Rattle.synthesis.specs.declared.End as ends
use Rattle.synthesis.specs.declared.Step as steps

-- the one-literal clauses of k atoms from atom a on that are true in a state
unfoldable pub units_from : List ℕ → ℕ → ℕ → List (List ℕ)
units_from s a k = map (λ a. (2 * a + (1 - get_or s a 0)) ∷ []) (range a k)

-- what is asked of a round on clauses c, with so many marks and words of the work buffer
pub record Ready (w c : List ℕ) (atoms n rows marks work : ℕ) : Type 0 where
  pub round : Round w c atoms n rows
  pub marked : mark_bytes atoms ≤ marks
  pub room : width * rows ≤ work

-- the next set of C stands in the first k rows
pub record Advanced (t : Task) (n rows : ℕ) (last : Bool) (C : List (List ℕ)) (w : List ℕ) (k : ℕ) : Type 0 where
  pub fails : all passes (tested t C) ≡ false
  pub more : last ≡ false
  pub few : fits rows (next t n C) ≡ true
  pub room : Room rows k w
  pub set : held k w ≡ next t n C

-- what a round on C comes to, and the next set then
abbrev pub Stepped : Task → ℕ → ℕ → Bool → List (List ℕ) → List ℕ → steps.Step → Type 0
Stepped t n rows last C w (steps.TheVariants.Ended ends.TheVariants.Finished) = all passes (tested t C) ≡ true
Stepped t n rows last C w (steps.TheVariants.Ended ends.TheVariants.OutOfRounds) = (all passes (tested t C) ≡ false) × (last ≡ true)
Stepped t n rows last C w (steps.TheVariants.Ended ends.TheVariants.OutOfRows) =
    (all passes (tested t C) ≡ false) × (last ≡ false) × (fits rows (next t n C) ≡ false)
Stepped t n rows last C w (steps.TheVariants.Next k) = Advanced t n rows last C w k

-- the step to the next set that was built
abbrev pub step_of : std.Option ℕ → steps.Step
step_of std.None = steps.TheVariants.Ended ends.TheVariants.OutOfRows
step_of (std.Some k) = steps.TheVariants.Next k

-- the answer where the rounds end with a set of so many rows in clause buffer c, and the buffer then
abbrev pub ended : List ℕ → ℕ → ℕ → ends.End → Outcome Made
ended c count made ends.TheVariants.Finished =
    outcome (finding (record { rows = count; rounds = made })) (take (width * count) c ++ replicate (length c - width * count) 0)
ended c count made ends.TheVariants.OutOfRounds = outcome (refused (refusal_at 15 0 0)) (replicate (length c) 0)
ended c count made ends.TheVariants.OutOfRows = outcome (refused (refusal_at 14 0 0)) (replicate (length c) 0)

-- the first set stands in the buffer's first rows; `limit` rounds are allowed
pub record Begun (w c v : List ℕ) (atoms n limit rows marks : ℕ) : Type 0 where
  pub task : Reads w
  pub counted : atoms ≡ (task_of w).atoms
  pub few : atoms ≤ most_atoms
  pub some_literal : 1 ≤ n
  pub narrow : n ≤ width
  pub some_round : 1 ≤ limit
  pub size : atoms ≤ rows
  pub few_rows : rows ≤ most_rows
  pub room : width * rows ≤ length c
  pub work : length c ≤ length v
  pub marked : mark_bytes atoms ≤ marks
  pub words : take (width * atoms) c ≡ clause_words (first_set (task_of w))
