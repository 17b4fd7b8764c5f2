-- The joined image part by part: lengths, directory, lists, operators; and its number of words. Assumes nothing.
use mathlib.Core.Bool.{◌&&◌}
use mathlib.Core.Path.{◌≡◌, refl, sym, ◌∙◌, ap, ap₂}
use mathlib.Core.List.{List, [], ◌∷◌, ◌++◌, map, map-append, append_assoc}
use Prim.Native.Nat.{ℕ, ◌+◌, ◌-◌, ◌*◌, ◌≤◌}
use native.Mathlib.Omega.{arith}
use lib.ListN.{length, length-append, length-map}
use lib.Dec.{leb}
use Rattle.definitions.specs.Lists.{each}
use Rattle.definitions.specs.Literal.{most_atoms}
use Rattle.definitions.specs.Image.{most_image, most_operators, Operator, Task, operator_size}
use Rattle.definitions.specs.TaskWords.{operator_words, task_parts, task_words}
use Rattle.definitions.specs.Join.{shifted, shifted_operator, joined, join_fits}
use Rattle.definitions.proofs.ImageSize.{block_size}
use Rattle.definitions.proofs.JoinLaws.{operator_zero}
use Rattle.definitions.proofs.ListLaws.{each_append, each_map}
use Rattle.definitions.proofs.LiteralLaws.{list_low}
use Rattle.definitions.proofs.TaskBack.{RightTask, right_of, read_of}
use Rattle.definitions.proofs.JoinRead.{operator_long, joined_count, join_long, Fits, fits_of}
use Rattle.task.specs.Reads.{task_of, Reads}
use Rattle.writing.specs.Directory.{directory_of, size_of, DirectoryGiven}
use Rattle.writing.proofs.DirectoryLaws.{directory_is, image_size}
use Rattle.joining.specs.Behind.{operator_behind, operators_behind, NumbersGiven}
use Rattle.joining.specs.Parts.{list_lengths, lengths_of, header_of, lists_of, operators_of, Joinable, PartGiven}
use Rattle.joining.proofs.ShiftLaws.{numbers_given, list_long}

-- ---- the operators
operators_zero : (os : List Operator) → map (shifted_operator 0) os ≡ os
operators_zero [] = refl
operators_zero (o ∷ os) = ap₂ (λ a b. a ∷ b) (operator_zero o) (operators_zero os)

blocks_behind : (n : ℕ) (os : List Operator) → each (λ p. p) (map operator_words (map (shifted_operator n) os)) ≡ operators_behind n os
unfolding operators_behind operator_behind
blocks_behind n os = each_map (λ p. p) operator_words (map (shifted_operator n) os) ∙ each_map operator_words (shifted_operator n) os

blocks_first : (os : List Operator) → each (λ p. p) (map operator_words os) ≡ operators_behind 0 os
blocks_first os = ap (λ l. each (λ p. p) (map operator_words l)) (sym (operators_zero os)) ∙ blocks_behind 0 os

sizes_behind : (n : ℕ) (os : List Operator) → map length (map operator_words (map (shifted_operator n) os)) ≡ map operator_size os
sizes_behind n [] = refl
sizes_behind n (o ∷ os) = ap₂ (λ a b. a ∷ b) (block_size (shifted_operator n o) ∙ operator_long n o) (sizes_behind n os)

sizes_first : (os : List Operator) → map length (map operator_words os) ≡ map operator_size os
sizes_first os = ap (λ l. map length (map operator_words l)) (sym (operators_zero os)) ∙ sizes_behind 0 os

-- ---- all parts
module _ (t u : Task) where
  abbrev behind : List Operator
  behind = map (shifted_operator t.atoms) u.operators

  pub list_lengths_lem :
      (a b : ℕ) → a ≡ length t.initial + length u.initial → b ≡ length t.goal + length u.goal
      → list_lengths t u ≡ a ∷ b ∷ []
  unfolding list_lengths
  list_lengths_lem a b e f = rw (e, f)

  lengths_are : map length (task_parts (joined t u)) ≡ lengths_of t u
  unfolding task_parts joined lengths_of list_lengths
  lengths_are =
      ap₂ (λ a b. a ∷ b) (list_long t.atoms t.initial u.initial)
      (ap₂ (λ a b. a ∷ b) (list_long (2 * t.atoms) t.goal u.goal)
      (ap (map length) (map-append operator_words t.operators behind)
      ∙ map-append length (map operator_words t.operators) (map operator_words behind)
      ∙ ap₂ (λ a b. a ++ b) (sizes_first t.operators) (sizes_behind t.atoms u.operators)))

  parts_are : each (λ p. p) (task_parts (joined t u)) ≡ lists_of t u ++ operators_of t u
  unfolding task_parts joined lists_of operators_of each
  parts_are =
      ap (λ l. initial ++ (goal ++ l))
      (ap (each (λ p. p)) (map-append operator_words t.operators behind)
      ∙ each_append (λ p. p) (map operator_words t.operators) (map operator_words behind)
      ∙ ap₂ (λ a b. a ++ b) (blocks_first t.operators) (blocks_behind t.atoms u.operators))
      ∙ sym (append_assoc initial goal (operators_behind 0 t.operators ++ operators_behind t.atoms u.operators))
    where
      initial : List ℕ
      initial = t.initial ++ shifted t.atoms u.initial

      goal : List ℕ
      goal = t.goal ++ shifted (2 * t.atoms) u.goal

  pub image_is : task_words (joined t u) ≡ header_of t u ++ (lists_of t u ++ operators_of t u)
  unfolding task_words header_of
  image_is =
      ap₂ (λ a b. a ++ b)
      (directory_is (joined t u).atoms (length (joined t u).operators) (task_parts (joined t u))
      ∙ ap₂ (λ m ls. directory_of (joined t u).atoms m ls) (joined_count t u) lengths_are
      ∙ ap (λ n. directory_of n (length t.operators + length u.operators) (lengths_of t u)) atoms_are)
      parts_are
    where
      atoms_are : (joined t u).atoms ≡ t.atoms + u.atoms
      atoms_are = unfold joined in refl

  pub size_is : size_of (lengths_of t u) ≡ length (task_words (joined t u))
  unfolding task_words
  size_is =
      ap size_of (sym lengths_are)
      ∙ sym (image_size (joined t u).atoms (length (joined t u).operators) (task_parts (joined t u)))

  -- a length for each part
  pub lengths_count : length (lengths_of t u) ≡ 2 + (length t.operators + length u.operators)
  unfolding lengths_of list_lengths
  lengths_count =
      let a = length-append (map operator_size t.operators) (map operator_size u.operators) in
      let b = length-map t.operators operator_size in
      let c = length-map u.operators operator_size in
      omega arith

pairs_most : (ls : List ℕ) → 2 + 2 * length ls ≤ size_of ls
unfolding size_of
pairs_most ls = omega arith

-- ---- two images that read as tasks
module _ (w v : List ℕ) (first : Reads w) (second : Reads v) where
  pub words_are : length (task_words (joined (task_of w) (task_of v))) + 6 ≡ length w + length v
  words_are = join_long w v 0 (task_of w) (task_of v) first.found second.found

pub joinable_fits : {w v target : List ℕ} → Joinable w v target → Fits (joined (task_of w) (task_of v)) (length target)
joinable_fits {w} {v} {target} j = fits_of (joined (task_of w) (task_of v)) (length target) j.fits

-- at most a length for each part of an image
pub lengths_few : {w v target : List ℕ} → Joinable w v target → length (lengths_of (task_of w) (task_of v)) ≤ most_operators + 2
lengths_few {w} {v} j =
    omega (arith, lengths_count (task_of w) (task_of v), joined_count (task_of w) (task_of v), (joinable_fits j).operators)

-- ---- the directory, by the numbers and lengths that were worked out
module _
    (w v : List ℕ) (first second : ℕ) (ls : List ℕ)
    (atoms : first ≡ (task_of w).atoms + (task_of v).atoms)
    (operators : second ≡ length (task_of w).operators + length (task_of v).operators)
    (lengths : ls ≡ lengths_of (task_of w) (task_of v)) where
  pub header_is : header_of (task_of w) (task_of v) ≡ directory_of first second ls
  unfolding header_of
  header_is = rw (atoms, operators, lengths)

  pub header_given : {target : List ℕ} → Joinable w v target → DirectoryGiven first second ls target
  unfolding joined
  header_given {target} j =
      let f = joinable_fits j in
      let n = f.atoms in
      let m = f.operators in
      let c = joined_count (task_of w) (task_of v) in
      let size : size_of ls ≡ length (task_words (joined (task_of w) (task_of v))) = ap size_of lengths ∙ size_is (task_of w) (task_of v) in
      let image = f.image in
      let room = f.room in
      record {
        first_word = omega arith;
        second_word = omega arith;
        offsets = omega arith;
        room = (let p = pairs_most ls in omega arith);
      }

-- ---- the lists and the operators, as the code works them out: n is the number of the first's atoms
module _ (t u : Task) (n : ℕ) (atoms : n ≡ t.atoms) where
  pub lists_are :
      (ti ui tg ug : List ℕ) → ti ≡ t.initial → ui ≡ u.initial → tg ≡ t.goal → ug ≡ u.goal
      → lists_of t u ≡ (ti ++ shifted n ui) ++ (tg ++ shifted (2 * n) ug)
  unfolding lists_of
  lists_are ti ui tg ug e f g h = rw (atoms, e, f, g, h)

  pub operators_are : operators_of t u ≡ operators_behind 0 t.operators ++ operators_behind n u.operators
  unfolding operators_of
  operators_are = rw atoms

-- the second's lists behind the first's atoms
module _ (v : List ℕ) (second : Reads v) (n : ℕ) (few : n + (task_of v).atoms ≤ most_atoms) where
  right : RightTask (task_of v)
  right = right_of (task_of v) (read_of v (task_of v) second.found).right

  pub initial_given : (xs : List ℕ) → xs ≡ (task_of v).initial → NumbersGiven n xs
  initial_given xs e = rw e (numbers_given n (task_of v).atoms (task_of v).initial right.low (omega arith))

  pub goal_given : (xs : List ℕ) → xs ≡ (task_of v).goal → NumbersGiven (2 * n) xs
  goal_given xs e =
      rw e (numbers_given (2 * n) (2 * (task_of v).atoms) (task_of v).goal (list_low (task_of v).atoms (task_of v).goal right.goal) (omega arith))

-- ---- the parts of the joined image find room, one after the other
module _ {w v target : List ℕ} (j : Joinable w v target) where
  pub all_room : 0 + length (task_words (joined (task_of w) (task_of v))) ≤ length target
  all_room = let r = (joinable_fits j).room in omega arith

  pub part_given : {part new : List ℕ} {to : ℕ} → to + length part ≤ length new → PartGiven w v part new to
  unfolding joined
  part_given room = record { first = j.first; second = j.second; few = (joinable_fits j).atoms; room = room }

-- ---- question 27 asks for the four limits
module _ (w v : List ℕ) (first : Reads w) (second : Reads v) (room : ℕ) where
  pub limits_are :
      (leb ((task_of w).atoms + (task_of v).atoms) most_atoms && leb (length (task_of w).operators + length (task_of v).operators) most_operators
      && leb (length w + length v - 6) most_image && leb (length w + length v - 6) room)
      ≡ join_fits (joined (task_of w) (task_of v)) room
  unfolding join_fits joined
  limits_are =
      let words : length (task_words (joined (task_of w) (task_of v))) ≡ length w + length v - 6 = omega (arith, words_are w v first second) in
      rw (joined_count (task_of w) (task_of v), words)
