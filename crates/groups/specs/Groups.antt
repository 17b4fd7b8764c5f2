-- What the call answers once the checker has accepted. Assumes nothing.
use Rattle.std.specs.Prelude.{List, ℕ, leb, length}
use Rattle.definitions.specs.Answer.{Answer, finding, ask, ◌>>=◌}
use Rattle.definitions.specs.Groups.{groups, group_words, Written}

-- question 16 of groups, and the finding
unfoldable pub groups_answer : ℕ → List (List ℕ) → ℕ → Answer Written
groups_answer N C target = do
  let ws = group_words N C
  _ ← ask 16 (leb (length ws) target)
  finding (record { count = length (groups N C); words = ws })
