-- An image that reads as a re-encoded task, and its task. Assumes nothing.
use Rattle.std.specs.Prelude.{ℕ, List, [], ◌≡◌}
use Rattle.definitions.specs.Answer.{Answer, finding, refused}
use Rattle.definitions.specs.Fdr.{FdrTask}
use Rattle.definitions.specs.FdrImage.{read_fdr}

-- the task that was found
unfoldable pub fdr_in : Answer FdrTask → FdrTask
fdr_in (finding t) = t
fdr_in (refused r) = record { domains = []; atoms = []; initial = []; goal = []; operators = [] }

-- the task of an image that reads as one
unfoldable pub fdr_of : List ℕ → FdrTask
fdr_of w = fdr_in (read_fdr w)

-- question 17 is answered yes
pub record ReadsFdr (w : List ℕ) : Type 0 where
  pub found : read_fdr w ≡ finding (fdr_of w)
