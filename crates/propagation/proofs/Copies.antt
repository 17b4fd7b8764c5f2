-- Marks copied to the front of others stand for the same set. Assumes nothing.
use mathlib.Core.Path.{◌≡◌, ◌∙◌}
use mathlib.Core.List.{List, ◌++◌}
use Prim.Native.Nat.{ℕ, ◌/◌, ◌≤◌, ◌<◌}
use native.Mathlib.Omega.{arith}
use lib.ListN.{length, get_or, take, drop, get_or-append, length-append, length-drop}
use lib.Seq.{length-take-le, get_or-take}
use Rattle.definitions.specs.Marks.{mark_bytes}
use Rattle.definitions.proofs.MarkBits.{mark_inside, marked_byte}
use Rattle.propagation.specs.Marks.{Marked}

module _ (N size : ℕ) (from to front : List ℕ) (exact : size ≡ mark_bytes N) (inside : mark_bytes N ≤ length from)
    (room : mark_bytes N ≤ length to) (copied : front ≡ take size from) where
  front_length : length front ≡ size
  front_length = rw copied (length-take-le size from (rw exact inside))

  copied_byte : (i : ℕ) → i < size → get_or (front ++ drop size to) i 0 ≡ get_or from i 0
  copied_byte i h =
      get_or-append front (drop size to) 0 i (omega (arith, front_length)) ∙ rw copied (get_or-take size from i 0 h)

  pub copied_marks : (S : List ℕ) → Marked N from S → Marked N (front ++ drop size to) S
  copied_marks S m =
      record {
        room = omega (arith, front_length, length-append front (drop size to), length-drop size to);
        each = λ l h. marked_byte from (front ++ drop size to) l (copied_byte (l / 8) (rw exact (mark_inside N l h))) ∙ m.each l h;
      }
