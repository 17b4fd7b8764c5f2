-- Directories: what is written, by the parts themselves, and the walks over their lengths. Assumes nothing.
use mathlib.Core.Path.{◌≡◌, refl, ap, ◌∙◌}
use mathlib.Core.List.{List, [], ◌∷◌, ◌++◌, map}
use Rattle.std.specs.List as lists
use Rattle.std.proofs.lemmas.List.Sums.{sum_by-cons}
use Prim.Native.Nat.{ℕ, suc, ◌+◌, ◌*◌, ◌≤◌, ◌<◌}
use native.Mathlib.Omega.{arith}
use lib.ListN.{length, get_or, drop, length-append, length-map, drop_of_length-le}
use Rattle.definitions.specs.Lists.{each}
use Rattle.definitions.specs.Fdr.{pair_words}
use Rattle.definitions.proofs.Walks.{left_here}
use Rattle.writing.specs.Writing.{Wrote, Writing}
use Rattle.writing.specs.Directory.{sum, pairs_of, directory_of, size_of}
use Rattle.writing.proofs.Writes.{write_start, write_same, write_part, write_end, write_room}

-- ---- lengths
-- as the sum of an iterator gives it
pub words_sum : (ls : List ℕ) → lists.sum (map (λ x. x) ls) ≡ sum ls
unfolding sum
words_sum [] = refl
words_sum (l ∷ ls) = sum_by-cons (λ x. x) l (map (λ x. x) ls) ∙ ap (λ (n : ℕ). l + n) (words_sum ls)

pub sum_most : (ls : List ℕ) → ((k : ℕ) → get_or ls k 0 < 65536) → sum ls ≤ 65535 * length ls
unfolding sum
sum_most [] h = omega arith
sum_most (l ∷ ls) h =
    let first = h 0 in
    let rest = sum_most ls (λ k. h (suc k)) in
    omega arith

pub pairs_length : (at : ℕ) (ls : List ℕ) → length (pairs_of at ls) ≡ 2 * length ls
unfolding pairs_of
pairs_length at [] = refl
pairs_length at (l ∷ ls) = let h = pairs_length (at + l) ls in omega arith

pub directory_length : (first second : ℕ) (ls : List ℕ) → length (directory_of first second ls) ≡ 2 + 2 * length ls
unfolding directory_of
directory_length first second ls = let h = pairs_length (2 + 2 * length ls) ls in omega arith

pub parts_length : (parts : List (List ℕ)) → length (each (λ p. p) parts) ≡ sum (map length parts)
unfolding each sum
parts_length [] = refl
parts_length (p ∷ parts) =
    let a = length-append p (each (λ p. p) parts) in
    let h = parts_length parts in
    omega arith

-- ---- the directory of parts, and the whole image
pub pairs_are : (at : ℕ) (parts : List (List ℕ)) → pair_words at parts ≡ pairs_of at (map length parts)
unfolding pair_words pairs_of
pairs_are at [] = refl
pairs_are at (p ∷ parts) = ap (λ (l : List ℕ). at ∷ length p ∷ l) (pairs_are (at + length p) parts)

module _ (first second : ℕ) (parts : List (List ℕ)) where
  pub directory_is : (first ∷ second ∷ pair_words (2 + 2 * length parts) parts) ≡ directory_of first second (map length parts)
  unfolding directory_of
  directory_is = rw (pairs_are (2 + 2 * length parts) parts, length-map parts length)

  pub image_size : length (first ∷ second ∷ pair_words (2 + 2 * length parts) parts ++ each (λ p. p) parts) ≡ size_of (map length parts)
  unfolding size_of
  image_size =
      let a = length-append (first ∷ second ∷ pair_words (2 + 2 * length parts) parts) (each (λ p. p) parts) in
      let b = ap length directory_is in
      let c = directory_length first second (map length parts) in
      let d = parts_length parts in
      omega arith

-- ---- what is left at i
module _ (ls : List ℕ) (i : ℕ) where
  left : i < length ls → drop i ls ≡ get_or ls i 0 ∷ drop (i + 1) ls
  left h = left_here ls i 0 (get_or ls i 0) refl h

  pub sum_next : i < length ls → sum (drop i ls) ≡ get_or ls i 0 + sum (drop (i + 1) ls)
  unfolding sum
  sum_next h = rw (left h)

  pub sum_end : length ls ≤ i → sum (drop i ls) ≡ 0
  unfolding sum
  sum_end h = rw (drop_of_length-le ls {i = i} h)

  pairs_next : (at : ℕ) → i < length ls → pairs_of at (drop i ls) ≡ (at ∷ get_or ls i 0 ∷ []) ++ pairs_of (at + get_or ls i 0) (drop (i + 1) ls)
  unfolding pairs_of
  pairs_next at h = rw (left h)

  pairs_end : (at : ℕ) → length ls ≤ i → pairs_of at (drop i ls) ≡ []
  unfolding pairs_of
  pairs_end at h = rw (drop_of_length-le ls {i = i} h)

-- ---- the pairs before i are written: the state of the loop, and a law for each way of the code
pub record Pairing (ls old : List ℕ) (start at : ℕ) (now' : List ℕ) (offset to i : ℕ) : Type 0 where
  pub inside : i ≤ length ls
  pub ends : offset + sum (drop i ls) ≡ start + sum ls
  pub left : Writing old at (pairs_of start ls) now' to (pairs_of offset (drop i ls))

pub pairing_start : {ls old : List ℕ} {start at : ℕ} → Pairing ls old start at old start at 0
pairing_start = record { inside = omega arith; ends = refl; left = write_start }

module _ {ls old : List ℕ} {start at : ℕ} {now' : List ℕ} {offset to i : ℕ} (s : Pairing ls old start at now' offset to i) where
  -- the next pair, of words, finds room
  module _ (h : i < length ls) where
    pub offset_most : offset + get_or ls i 0 ≤ start + sum ls
    offset_most = let e = s.ends in let n = sum_next ls i h in omega arith

    pub pairing_room : at + 2 * length ls ≤ length old → to + 2 ≤ length now'
    pairing_room room =
        let p = pairs_length start ls in
        let q = ap length (pairs_next ls i offset h) in
        let r = write_room s.left (omega arith) in
        omega arith

    pub pairing_next :
        {new : List ℕ} {end : ℕ} → Wrote now' to (offset ∷ get_or ls i 0 ∷ []) new end
        → Pairing ls old start at new (offset + get_or ls i 0) end (i + 1)
    pairing_next w =
        record {
          inside = omega arith;
          ends = (let e = s.ends in let n = sum_next ls i h in omega arith);
          left = write_part (write_same (pairs_next ls i offset h) s.left) w;
        }

  pub pairing_done : length ls ≤ i → Wrote old at (pairs_of start ls) now' to
  pairing_done h = write_end (write_same (pairs_end ls i offset h) s.left)
