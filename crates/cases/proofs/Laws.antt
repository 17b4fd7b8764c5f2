-- Laws of the lists of a case, and of filling a target from a table. Assumes nothing.
use mathlib.Core.Path.{◌≡◌, refl, sym, ◌∙◌}
use mathlib.Core.List.{List, [], ◌∷◌, map}
use Prim.Native.Nat.{ℕ, zero, suc, ◌+◌, ◌*◌, ◌≤◌, ◌<◌}
use native.Mathlib.Numerals.{add-one}
use native.Mathlib.Omega.{arith}
use lib.ListN.{length, get_or, take, set, length-set, length-take}
use lib.Seq.{take-suc, take-suc-set, take_all}
use borrow.Author.Tests.{lt-ltb, le-ltb}
use Rattle.definitions.specs.Lists.{below}
use Rattle.definitions.specs.Card.{words_of}
use Rattle.definitions.proofs.ListLaws.{table_at, table_length}
use Rattle.writing.specs.Writing.{Wrote}
use Rattle.writing.proofs.Writes.{wrote_size}
use Rattle.cases.specs.Case.{most_input, most_words, header, last_end, stored_count, values_at, value_at}
use Rattle.cases.specs.Case.{words_from, bytes_from, list_of, bytes_of}

-- ---- where the stored values of a list begin
module _ (w : List ℕ) (at : ℕ) where
  pub values_next : (k : ℕ) → values_at w at (k + 1) ≡ values_at w at k + stored_count w at k
  unfolding values_at
  values_next k = rw (add-one k)

  -- not before the header ends, and not after the most values of the lists before
  pub values_low : (k : ℕ) → at + header ≤ values_at w at k
  unfolding values_at
  values_low zero = omega arith
  values_low (suc k) = let h = values_low k in omega arith

  pub values_high : (k : ℕ) → values_at w at k ≤ at + header + most_words * k
  unfolding values_at
  values_high zero = omega arith
  values_high (suc k) = let h = values_high k in omega arith

  pub values_end : (k : ℕ) → at ≤ most_input → k < 4 → values_at w at k + stored_count w at k ≤ last_end
  values_end k h q = let e = values_high k in omega arith

-- the list, by where its values begin and how many are stored
module _ (w : List ℕ) (at from count n : ℕ) where
  pub words_listed : (k : ℕ) → from ≡ values_at w at k → count ≡ stored_count w at k → words_from w from count n ≡ list_of w at k n
  unfolding list_of
  words_listed k e f = rw (e, f)

  pub bytes_listed : from ≡ values_at w at 3 → count ≡ stored_count w at 3 → bytes_from w from count n ≡ bytes_of w at n
  unfolding bytes_of
  bytes_listed e f = rw (e, f)

-- ---- a value, stored or not
module _ (w : List ℕ) (from count i : ℕ) where
  pub value_stored : i < count → get_or w (from + i) 0 ≡ value_at w from count i
  unfolding value_at
  value_stored h = rw (lt-ltb i count h)

  pub value_missing : count ≤ i → 7 ≡ value_at w from count i
  unfolding value_at
  value_missing h = rw (le-ltb i count h)

-- ---- a target filled from a table
-- its first i places hold the table's
pub record Filling (f : ℕ → ℕ) (old t : List ℕ) (i : ℕ) : Type 0 where
  pub inside : i ≤ length t
  pub size : length t ≡ length old
  pub same : take i t ≡ take i (map f (below (length old)))

pub fill_start : {f : ℕ → ℕ} {old : List ℕ} → Filling f old old 0
fill_start = record { inside = omega arith; size = refl; same = refl }

module _ {f : ℕ → ℕ} {old t : List ℕ} {i : ℕ} (s : Filling f old t i) where
  pub fill_next : (x : ℕ) → i < length old → x ≡ f i → Filling f old (set t i x) (i + 1)
  fill_next x low e =
      let n = length old in
      let size = s.size in
      let h : i < length t = omega arith in
      let long = table_length f n in
      let inside : i < length (map f (below n)) = omega arith in
      let here : x ≡ get_or (map f (below n)) i 0 = e ∙ sym (table_at f n i (omega arith)) in
      record {
        inside = (let p = length-set t i x in omega arith);
        size = length-set t i x ∙ size;
        same = rw (add-one i, take-suc-set t i x h, take-suc (map f (below n)) i 0 inside, s.same, here);
      }

  pub fill_end : length old ≤ i → t ≡ map f (below (length old))
  fill_end h =
      let long = table_length f (length old) in
      let size = s.size in
      sym (take_all i t (omega arith)) ∙ s.same ∙ take_all i (map f (below (length old))) (omega arith)

-- ---- the words of bytes
pub words_few : (bs : List ℕ) → 2 * length (words_of bs) ≤ length bs
unfolding words_of
words_few [] = omega arith
words_few (x ∷ []) = omega arith
words_few (x ∷ (y ∷ bs)) = let h = words_few bs in omega arith

-- written at the start of room for the words of an input
module _ (bs : List ℕ) {room new : List ℕ} {n : ℕ} (long : length room ≡ most_input) (w : Wrote room 0 (words_of bs) new n) where
  pub words_inside : length bs ≤ 2 * most_input → n ≤ length new
  words_inside h =
      let e = w.next in
      let s = wrote_size w in
      let few = words_few bs in
      omega arith

  pub words_fit : length (take n new) ≤ most_input
  words_fit = let s = wrote_size w in let t = length-take n new in omega arith
