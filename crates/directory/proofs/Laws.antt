-- Laws of the directory, for its walk and for callers. Assumes nothing.
use mathlib.Core.Path.{◌≡◌, sym, ◌∙◌, ap}
use mathlib.Core.List.{List, ◌++◌}
use mathlib.Core.Bool.{true, false, ◌&&◌}
use Prim.Native.Nat.{ℕ, zero, suc, ◌+◌, ◌-◌, ◌*◌, ◌≤◌, ◌<◌}
use native.Mathlib.Numerals.{add-one}
use native.Mathlib.Nat.{add-sub_cancel_left, le_trans, le_of_eq, le-add_right}
use native.Mathlib.Omega.{arith}
use lib.ListN.{length, get_or, take, drop, length-append, length-drop, get_or-append}
use Rattle.std.proofs.lemmas.List.{length-take-le, get_or-take, get_or-drop, get_or-append-add}
use lib.Dec.{leb, eqb}
use borrow.Author.Tests.{lt-leb, le-leb, eq-eqb, ne_eqb, leb-true, eqb-true}
use Rattle.definitions.specs.Image.{offset_at, length_at, part, chained, directory}
use Rattle.definitions.proofs.ListLaws.{and_left, and_right}
use Rattle.directory.specs.Directory.{Lies}

-- the pairs before i are tested; `rest` holds the words of those that are left, and `at` is where the next part is to begin
pub record Tested (w : List ℕ) (pairs at i : ℕ) (rest : List ℕ) (size : ℕ) : Type 0 where
  pub two : size ≡ 2
  pub left : 2 * i + length rest ≡ 2 * pairs
  pub words : (k : ℕ) → k < length rest → get_or rest k 0 ≡ get_or w (2 + 2 * i + k) 0
  pub test : directory w pairs ≡ chained w i at (pairs - i)

pub directory_short : (w : List ℕ) (k : ℕ) → length w < 2 + 2 * k → directory w k ≡ false
unfolding directory
directory_short w k h = rw (lt-leb (2 + 2 * k) (length w) h)

directory_start : (w : List ℕ) (k : ℕ) → 2 + 2 * k ≤ length w → directory w k ≡ chained w 0 (2 + 2 * k) (k - 0)
unfolding directory
directory_start w k h =
    let e : k - 0 ≡ k = omega arith in
    rw (e, le-leb (2 + 2 * k) (length w) h)

pub tested_start :
    (w : List ℕ) (pairs : ℕ) (rest : List ℕ) (size : ℕ) → 2 + 2 * pairs ≤ length w → rest ≡ take (2 + 2 * pairs - 2) (drop 2 w) → size ≡ 2
    → Tested w pairs (2 + 2 * pairs) 0 rest size
tested_start w pairs rest size h e two =
    let d = length-drop 2 w in
    let n : length rest ≡ 2 * pairs = rw e (length-take-le (2 + 2 * pairs - 2) (drop 2 w) (omega arith) ∙ omega arith) in
    record {
      two = two;
      left = omega arith;
      words = λ k l. rw e (get_or-take (2 + 2 * pairs - 2) (drop 2 w) k 0 (omega arith) ∙ get_or-drop 2 w k 0);
      test = directory_start w pairs h;
    }

module _ {w : List ℕ} {pairs at i : ℕ} {rest : List ℕ} {size : ℕ} (s : Tested w pairs at i rest size) where
  -- the next pair
  module _ (pair after : List ℕ) (parts : rest ≡ pair ++ after) (two : length pair ≡ size) where
    long : length rest ≡ 2 + length after
    long = let a = length-append pair after in let e = ap length parts in let t = s.two in omega arith

    first : get_or pair 0 0 ≡ get_or w (2 + 2 * i) 0
    first =
        let a : get_or rest 0 0 ≡ get_or pair 0 0 = rw parts (get_or-append pair after 0 0 (omega (arith, s.two))) in
        let z : 2 + 2 * i + 0 ≡ 2 + 2 * i = omega arith in
        sym a ∙ s.words 0 (omega (arith, long)) ∙ rw z

    second : get_or pair 1 0 ≡ get_or w (3 + 2 * i) 0
    second =
        let a : get_or rest 1 0 ≡ get_or pair 1 0 = rw parts (get_or-append pair after 0 1 (omega (arith, s.two))) in
        let z : 2 + 2 * i + 1 ≡ 3 + 2 * i = omega arith in
        sym a ∙ s.words 1 (omega (arith, long)) ∙ rw z

    next : chained w i at (pairs - i) ≡ (eqb (get_or pair 0 0) at && chained w (i + 1) (at + get_or pair 1 0) (pairs - (i + 1)))
    unfolding chained offset_at length_at
    next =
        let e : pairs - i ≡ suc (pairs - (i + 1)) = omega (arith, s.left, long) in
        rw (e, add-one, first, second)

    pub tested_off : (get_or pair 0 0 ≡ at → ⊥) → directory w pairs ≡ false
    tested_off h = s.test ∙ next ∙ rw (ne_eqb (get_or pair 0 0) at h)

    pub tested_on :
        (j l more : ℕ) → get_or pair 0 0 ≡ at → j ≡ i + 1 → l ≡ get_or pair 1 0 → more ≡ size → Tested w pairs (at + l) j after more
    tested_on j l more e n p m =
        rw (n, p)
        record {
          two = omega (arith, s.two);
          left = omega (arith, s.left, long);
          words = λ k h.
              let t : 2 + k ≡ length pair + k = omega (arith, s.two) in
              let a : get_or rest (2 + k) 0 ≡ get_or after k 0 = rw (parts, t) (get_or-append-add pair after k 0) in
              let z : 2 + 2 * i + (2 + k) ≡ 2 + 2 * (i + 1) + k = omega arith in
              sym a ∙ s.words (2 + k) (omega (arith, long)) ∙ rw z;
          test = s.test ∙ next ∙ rw (eq-eqb (get_or pair 0 0) at e);
        }

  pub tested_end : length rest < size → directory w pairs ≡ eqb at (length w)
  unfolding chained
  tested_end h =
      let z : pairs - i ≡ 0 = omega (arith, s.left, s.two) in
      s.test ∙ rw z

-- a chain of parts ends within the image, and so does each part of it
chained_fits : (w : List ℕ) (i at k : ℕ) → chained w i at k ≡ true → at ≤ length w
unfolding chained
chained_fits w i at zero h = le_of_eq (eqb-true at (length w) h)
chained_fits w i at (suc k) h =
    le_trans (le-add_right at (length_at w i))
    (chained_fits w (suc i) (at + length_at w i) k (and_right (eqb (offset_at w i) at) (chained w (suc i) (at + length_at w i) k) h))

chained_part : (w : List ℕ) (i at k j : ℕ) → chained w i at k ≡ true → j < k → offset_at w (i + j) + length_at w (i + j) ≤ length w
unfolding chained
chained_part w i at zero j h m = absurd (omega arith)
chained_part w i at (suc k) zero h m =
    let rest = chained_fits w (suc i) (at + length_at w i) k (and_right (eqb (offset_at w i) at) (chained w (suc i) (at + length_at w i) k) h) in
    let e = eqb-true (offset_at w i) at (and_left (eqb (offset_at w i) at) (chained w (suc i) (at + length_at w i) k) h) in
    let z : i + 0 ≡ i = omega arith in
    rw (z, e) rest
chained_part w i at (suc k) (suc j) h m =
    let e : i + suc j ≡ suc i + j = omega arith in
    rw e (chained_part w (suc i) (at + length_at w i) k j (and_right (eqb (offset_at w i) at) (chained w (suc i) (at + length_at w i) k) h) (omega arith))

-- each pair of a right directory lies within the image, with its part
pub directory_lies : (w : List ℕ) (k i : ℕ) → directory w k ≡ true → i < k → Lies w i
unfolding directory
directory_lies w k i h l =
    let room = leb-true (2 + 2 * k) (length w) (and_left (leb (2 + 2 * k) (length w)) (chained w 0 (2 + 2 * k) k) h) in
    let e : 0 + i ≡ i = omega arith in
    record {
      pair = omega arith;
      end = rw e at (chained_part w 0 (2 + 2 * k) k i (and_right (leb (2 + 2 * k) (length w)) (chained w 0 (2 + 2 * k) k) h) l);
    }

-- the end of a part, by the words of its pair
pub end_within : (w : List ℕ) (i o l : ℕ) → Lies w i → o ≡ get_or w (2 + 2 * i) 0 → l ≡ get_or w (3 + 2 * i) 0 → o + l ≤ length w
unfolding offset_at length_at
end_within w i o l lies eo el = rw (eo, el) lies.end

-- the part that the code cuts out
pub part_cut : (w : List ℕ) (i o l : ℕ) → o ≡ get_or w (2 + 2 * i) 0 → l ≡ get_or w (3 + 2 * i) 0 → take (o + l - o) (drop o w) ≡ part w i
unfolding part offset_at length_at
part_cut w i o l eo el = rw (add-sub_cancel_left o l, eo, el)
