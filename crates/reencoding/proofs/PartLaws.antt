-- Lengths of the parts, and the directory that they make. Assumes nothing.
use mathlib.Core.Path.{◌≡◌, ap}
use mathlib.Core.List.{List, [], ◌∷◌, ◌++◌, map}
use Prim.Native.Nat.{ℕ, ◌+◌, ◌-◌, ◌*◌, ◌≤◌, ◌<◌}
use native.Mathlib.Omega.{arith}
use lib.ListN.{length, take, drop, length-map}
use Rattle.definitions.specs.Literal.{most_atoms}
use Rattle.definitions.specs.Image.{most_operators, Operator, Task, operator_size, operators_size}
use Rattle.definitions.specs.FdrImage.{most_fdr_image}
use Rattle.definitions.specs.Step.{operator_at}
use Rattle.task.specs.Reads.{task_of, Reads}
use Rattle.task.specs.Walk.{operator_in}
use Rattle.task.specs.Post.{BlockGiven, OperatorOver}
use Rattle.task.proofs.BlockSizes.{task_sizes, size_is, block_over, each_next, each_end}
use Rattle.writing.specs.Directory.{sum, directory_of, size_of, DirectoryGiven}
use Rattle.writing.specs.Writing.{Wrote, Writing}
use Rattle.writing.proofs.Writes.{wrote_size, wrote_taken, write_same, write_part, write_end, part_room}
use Rattle.writing.proofs.DirectoryLaws.{directory_length}
use Rattle.reencoding.specs.Words.{atoms_of, operator_by, Ready}
use Rattle.reencoding.specs.Parts.{words_of, lengths_of, operators_by}

-- ---- one operator
pub block_words :
    (w : List ℕ) (rd : Reads w) (i : ℕ) (h : i < length (task_of w).operators) (b : List ℕ) → BlockGiven b (task_of w) i
    → 2 * length b - 2 ≡ words_of (operator_at (task_of w) i)
unfolding words_of
block_words w rd i h b given = let a = size_is w rd i h b given in omega arith

-- ---- the lengths of the parts
lengths_count : (n : ℕ) (t : Task) → length (lengths_of n t) ≡ 4 + length t.operators
unfolding lengths_of
lengths_count n t = let a = length-map t.operators words_of in omega arith

-- those of the first four, pair after pair, and those of the operators
pub lengths_parts :
    (n a g : ℕ) (t : Task) → a ≡ t.atoms → g ≡ length t.goal
    → lengths_of n t ≡ 2 * n ∷ 2 * a ∷ n ∷ 2 * g ∷ map words_of t.operators
unfolding lengths_of
lengths_parts n a g t ea eg = rw (ea, eg)

-- they are in a buffer for the most parts
module _ (w : List ℕ) (rd : Reads w) (n : ℕ) where
  pub lengths_few : length (lengths_of n (task_of w)) ≤ most_operators + 4
  lengths_few = let a = lengths_count n (task_of w) in let b = (task_sizes w rd).most_operators_lem in omega arith

  module _ {old new : List ℕ} {end : ℕ} (room : length old ≡ most_operators + 4) (wrote : Wrote old 0 (lengths_of n (task_of w)) new end) where
    pub lengths_taken : take end new ≡ lengths_of n (task_of w)
    lengths_taken = wrote_taken (let a = lengths_few in omega arith) wrote

    pub lengths_inside : end ≤ length new
    lengths_inside = let a = lengths_few in let b = wrote.next in let c = wrote_size wrote in omega arith

-- ---- the directory: its numbers and offsets are words
sum_most : (os : List Operator) → sum (map words_of os) ≤ 2 * operators_size os
unfolding sum words_of operator_size operators_size
sum_most [] = omega arith
sum_most (o ∷ os) = let h = sum_most os in omega arith

module _ (w : List ℕ) (rd : Reads w) (n : ℕ) (few : n ≤ most_atoms) where
  size_most : size_of (lengths_of n (task_of w)) < most_fdr_image
  unfolding size_of lengths_of sum
  size_most =
      let a = sum_most (task_of w).operators in
      let b = (task_sizes w rd).words in
      let c = (task_sizes w rd).most_atoms_lem in
      let d = length-map (task_of w).operators words_of in
      omega arith

  pub directory_given :
      (m : ℕ) (ls target : List ℕ) → m ≡ length (task_of w).operators → ls ≡ lengths_of n (task_of w)
      → length (directory_of n m ls) ≤ length target → DirectoryGiven n m ls target
  directory_given m ls target em el room =
      let a = (task_sizes w rd).most_operators_lem in
      let b = size_most in
      let c = ap size_of el in
      let d = directory_length n m ls in
      record { first_word = omega arith; second_word = omega arith; offsets = omega arith; room = omega arith }

-- ---- the operators: those from i on are left to be written
module _ (places w : List ℕ) (i : ℕ) where
  operators_next :
      i < length (task_of w).operators
      → operators_by places (drop i (task_of w).operators)
      ≡ operator_by places (operator_at (task_of w) i) ++ operators_by places (drop (i + 1) (task_of w).operators)
  unfolding operators_by
  operators_next h = each_next w i (operator_by places) h

  operators_end : length (task_of w).operators ≤ i → operators_by places (drop i (task_of w).operators) ≡ []
  unfolding operators_by
  operators_end h = each_end w i (operator_by places) h

  module _
      {at to : ℕ} {old now' : List ℕ}
      (left : Writing old at (operators_by places (task_of w).operators) now' to (operators_by places (drop i (task_of w).operators)))
    where
      -- the block of operator i is read
      module _ (h : i < length (task_of w).operators) {b : List ℕ} (given : BlockGiven b (task_of w) i) where
        operator_next :
            Writing old at (operators_by places (task_of w).operators) now' to
            (operator_by places (operator_in b) ++ operators_by places (drop (i + 1) (task_of w).operators))
        operator_next = rw given.operator (write_same (operators_next h) left)

        -- what writing it asks
        pub operator_given :
            Reads w → (task_of w).atoms ≡ atoms_of places → Ready places (operators_by places (task_of w).operators) old at
            → Ready places (operator_by places (operator_in b)) now' to × OperatorOver (atoms_of places) b
        operator_given rd atoms r = (
          record {
            low = r.low;
            room = part_room (operator_by places (operator_in b)) (operators_by places (drop (i + 1) (task_of w).operators)) operator_next r.room;
          },
          rw (← atoms) (block_over w rd i h b given),
        )

        pub operator_written :
            {new : List ℕ} {end : ℕ} → Wrote now' to (operator_by places (operator_in b)) new end
            → Writing old at (operators_by places (task_of w).operators) new end (operators_by places (drop (i + 1) (task_of w).operators))
        operator_written e = write_part operator_next e

      pub operators_written : length (task_of w).operators ≤ i → Wrote old at (operators_by places (task_of w).operators) now' to
      operators_written h = write_end (write_same (operators_end h) left)
