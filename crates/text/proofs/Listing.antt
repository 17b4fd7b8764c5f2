-- The texts that f gives of a list, written one after the other: the state of the loop, and a law for each way of the code. Assumes nothing.
use mathlib.Core.Path.{◌≡◌}
use mathlib.Core.List.{List, ◌++◌}
use Prim.Native.Nat.{ℕ, ◌+◌, ◌≤◌, ◌<◌}
use native.Mathlib.Omega.{arith}
use lib.ListN.{length, get_or, drop}
use Rattle.definitions.specs.Lists.{each}
use Rattle.writing.specs.Writing.{Wrote, Writing}
use Rattle.writing.proofs.Writes.{write_start, write_same, write_part, write_end, part_room}
use Rattle.text.proofs.Lines.{each_next, each_end}

-- the texts from element i on are left to be written
pub record Listing {A : Type 0} (f : A → List ℕ) (xs : List A) (old : List ℕ) (start : ℕ) (now' : List ℕ) (to i : ℕ) : Type 0 where
  pub inside : i ≤ length xs
  pub left : Writing old start (each f xs) now' to (each f (drop i xs))

module _ {A : Type 0} {f : A → List ℕ} {xs : List A} {old : List ℕ} {start : ℕ} where
  pub list_start : Listing f xs old start old start 0
  list_start = record { inside = omega arith; left = write_start }

  module _ {now' : List ℕ} {to i : ℕ} (s : Listing f xs old start now' to i) where
    -- element i is the next
    module _ (d x : A) (at : x ≡ get_or xs i d) (more : i < length xs) where
      next_left : Writing old start (each f xs) now' to (f x ++ each f (drop (i + 1) xs))
      next_left = write_same (each_next f xs i d x at more) s.left

      pub list_room : start + length (each f xs) ≤ length old → to + length (f x) ≤ length now'
      list_room room = part_room (f x) (each f (drop (i + 1) xs)) next_left room

      pub list_next : {after : List ℕ} {end : ℕ} → Wrote now' to (f x) after end → Listing f xs old start after end (i + 1)
      list_next w = record { inside = omega arith; left = write_part next_left w }

    pub list_done : length xs ≤ i → Wrote old start (each f xs) now' to
    list_done past = write_end (write_same (each_end f xs i past) s.left)
