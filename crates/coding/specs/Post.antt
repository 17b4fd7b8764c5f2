-- What the functions below the calls ask and answer. Assumes nothing.
use Rattle.std.specs.Prelude.{ℕ, ◌≤◌, ◌<◌, List, ◌++◌, Bool, true, false, ◌≡◌, length, get_or}
use Rattle.definitions.specs.Literal.{most_atoms}
use Rattle.definitions.specs.Lists.{all, below}
use Rattle.definitions.specs.Fdr.{FdrTask}
use Rattle.definitions.specs.Coding.{true_values, codable}
use Rattle.fdr_image.specs.Reads.{fdr_of, ReadsFdr}
use Rattle.coding.specs.Found.{none_found, values_of, with_atom}

-- an image that reads as a re-encoded task, a task's state of its length, and a target of `size` words
pub record Encodes (w s : List ℕ) (size : ℕ) : Type 0 where
  pub reads : ReadsFdr w
  pub source : length s ≡ length (fdr_of w).atoms
  pub target : size ≡ length (fdr_of w).domains

-- an image that reads as a re-encoded task, a finite-domain state of its length, and a target of `size` bytes
pub record Decodes (w s : List ℕ) (size : ℕ) : Type 0 where
  pub reads : ReadsFdr w
  pub source : length s ≡ length (fdr_of w).domains
  pub target : size ≡ length (fdr_of w).atoms

-- nothing is noted yet
pub record Finds (w s m : List ℕ) : Type 0 where
  pub reads : ReadsFdr w
  pub source : length s ≡ length (fdr_of w).atoms
  pub empty : m ≡ none_found

-- an atom of variable v, value x and byte b is noted, or refused as the second true one of its variable
pub record Noted (b v x : ℕ) (m m' : List ℕ) (r : Bool) : Type 0 where
  pub size : length m' ≡ length m
  pub low : ((u : ℕ) → get_or m u 0 ≤ 65536) → (u : ℕ) → get_or m' u 0 ≤ 65536
  pub one : r ≡ true → (u : ℕ) (xs : List ℕ) → values_of (get_or m u 0) ++ with_atom u v x b xs ≡ values_of (get_or m' u 0) ++ xs
  pub two : r ≡ false → (b ≡ 1) × (get_or m v 0 ≡ 0 → ⊥)

-- all true values are noted, or some variable has two
pub record Found (t : FdrTask) (s m : List ℕ) (r : Bool) : Type 0 where
  pub size : length m ≡ most_atoms
  pub low : (v : ℕ) → get_or m v 0 ≤ 65536
  pub one : r ≡ true → (v : ℕ) → true_values v t.atoms s ≡ values_of (get_or m v 0)
  pub two : r ≡ false → all (codable t s) (below (length t.domains)) ≡ false

-- x is what is noted for variable v
pub record Valued (w : List ℕ) (x v : ℕ) : Type 0 where
  pub reads : ReadsFdr w
  pub variable : v < length (fdr_of w).domains
  pub low : x ≤ 65536

-- all true values are noted in m, and the target has `words` words
pub record Writes (w m : List ℕ) (words : ℕ) : Type 0 where
  pub reads : ReadsFdr w
  pub size : length m ≡ most_atoms
  pub low : (v : ℕ) → get_or m v 0 ≤ 65536
  pub target : words ≡ length (fdr_of w).domains
