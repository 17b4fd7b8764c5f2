-- Places of a text between its words. Assumes nothing.
use Rattle.std.specs.Prelude.{Bool, true, false, ◌≡◌, List, ◌∷◌, ℕ, ◌-◌, ◌≤◌, ◌<◌, length, get_or, take, drop}
use Rattle.definitions.specs.Dimacs.{behind_comments, behind_comment, blank, tokens}

-- the text behind its comment lines, from inside a comment or from the start of a line
unfoldable pub behind_from : Bool → List ℕ → List ℕ
behind_from true bs = behind_comment bs
behind_from false bs = behind_comments bs

-- the bytes from one place to another
abbrev pub between : ℕ → ℕ → List ℕ → List ℕ
between at j text = take (j - at) (drop at text)

-- a word begins at the place, or it is the text's end
pub record Place (text : List ℕ) (at : ℕ) : Type 0 where
  pub inside : at ≤ length text
  pub word : at < length text → blank (get_or text at 0) ≡ false

-- only blanks stand from one place to the other
pub record Skipped (text : List ℕ) (at r : ℕ) : Type 0 where
  pub place : Place text r
  pub later : at ≤ r
  pub same : tokens (drop at text) ≡ tokens (drop r text)

-- a word stands from one place to the other
pub record WordAt (text : List ℕ) (at end : ℕ) : Type 0 where
  pub later : at < end
  pub inside : end ≤ length text
  pub word : tokens (drop at text) ≡ between at end text ∷ tokens (drop end text)
