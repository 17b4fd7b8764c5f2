-- Words, bytes or other items written into a target from a place on. Assumes nothing.
use Rattle.std.specs.Prelude.{◌≡◌, List, ℕ, ◌+◌, length}
use Rattle.std.proofs.lemmas.List.Edits.{sets}

-- the words stand in the target from `at` on, and end at `end`
pub record Wrote {A : Type 0} (old : List A) (at : ℕ) (words new : List A) (end : ℕ) : Type 0 where
  pub target : new ≡ sets old at words
  pub next : end ≡ at + length words

-- part of the words is written: those that are left go to `at` of the target as it is now
pub record Writing (old : List ℕ) (start : ℕ) (words now' : List ℕ) (at : ℕ) (left : List ℕ) : Type 0 where
  pub target : sets old start words ≡ sets now' at left
  pub place : start + length words ≡ at + length left
  pub size : length now' ≡ length old
