-- What writing the re-encoded image asks, and what the call answers once the checker has accepted. Assumes nothing.
use Rattle.std.specs.Prelude.{◌≡◌, List, ℕ, ◌*◌, ◌≤◌, ◌<◌, leb, length, get_or}
use Rattle.definitions.specs.Answer.{Answer, finding, ask, ◌>>=◌}
use Rattle.definitions.specs.Literal.{most_atoms}
use Rattle.definitions.specs.Image.{Task}
use Rattle.definitions.specs.Groups.{Written}
use Rattle.definitions.specs.Encoding.{encoded_image}
use Rattle.cover.specs.Domains.{Domained}
use Rattle.reencoding.specs.Parts.{lengths_of}

-- the n groups of a task's atoms are words: places of the atoms, size of each group
pub record Valued (t : Task) (ps ss : List ℕ) (n : ℕ) : Type 0 where
  pub few : n ≤ most_atoms
  pub places : length ps ≡ 2 * t.atoms
  pub low : (i : ℕ) → get_or ps i 0 < most_atoms
  pub variable : (a : ℕ) → a < t.atoms → get_or ps (2 * a) 0 < n
  pub sizes : n ≤ length ss

-- and whether none is a value of them
pub record Laid (t : Task) (ps ss ns : List ℕ) (n : ℕ) : Type 0 where
  pub valued : Valued t ps ss n
  pub domained : Domained ss ns n

-- and the lengths of the parts of its image
pub record Measured (t : Task) (ps ss ns : List ℕ) (n : ℕ) (ls : List ℕ) : Type 0 where
  pub laid : Laid t ps ss ns n
  pub lengths : ls ≡ lengths_of n t

-- question 16 of re-encoding, and the finding
unfoldable pub encode_answer : Task → List (List ℕ) → ℕ → Answer Written
encode_answer t C target = do
  let ws = encoded_image t C
  _ ← ask 16 (leb (length ws) target)
  finding (record { count = length ws; words = ws })
