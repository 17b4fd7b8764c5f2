-- A part of a local array that was lent and came back. Assumes nothing.
use mathlib.Core.Path.{◌≡◌, sym, ◌∙◌, ap}
use mathlib.Core.List.{List, ◌++◌}
use Prim.Native.Nat.{ℕ, ◌≤◌}
use native.Mathlib.Omega.{arith}
use lib.ListN.{length, take, drop, length-append}
use lib.Seq.{length-take-le, take_at}

module _ (e : ℕ) (a x : List ℕ) (room : e ≤ length a) (kept : length x ≡ length (take e a)) where
  pub part_length : length x ≡ e
  part_length = kept ∙ length-take-le e a room

  pub part_room : e ≤ length (x ++ drop e a)
  part_room = omega (arith, length-append x (drop e a), part_length)

  pub part_back : take e (x ++ drop e a) ≡ x
  part_back = take_at x (drop e a) e part_length

-- x came back for the first e elements of an array a
pub record CameBack (e : ℕ) (a x : List ℕ) : Type 0 where
  pub size : length x ≡ e
  pub room : e ≤ length (x ++ drop e a)
  pub part : take e (x ++ drop e a) ≡ x
  pub whole : e ≡ length (take e (x ++ drop e a))

pub came_back : (e : ℕ) (a x : List ℕ) → e ≤ length a → length x ≡ length (take e a) → CameBack e a x
came_back e a x fits kept =
    let size = part_length e a x fits kept in
    let part = part_back e a x fits kept in
    record { size = size; room = part_room e a x fits kept; part = part; whole = sym (ap length part ∙ size) }
