-- `joining::parts::part_lengths`: the lengths of the lists, of the first's operators, of the second's.
use Prim.Native.Nat.{ℕ, ◌+◌, ◌≤◌}
use native.Mathlib.Omega.{arith}
use mathlib.Core.List.{List, ◌++◌, map}
use lib.ListN.{length, length-map}
use Rattle.definitions.specs.Image.{operator_size}
use Rattle.task.specs.Reads.{task_of}
use Rattle.writing.specs.Writing.{Writing}
use Rattle.writing.proofs.Writes.{write_start, write_part, write_last, part_room, write_room}
use Rattle.joining.specs.Parts.{list_lengths, lengths_of}
use Rattle.joining.proofs.PartLaws.{lengths_count}
use borrow.Author.Rules.{rules}
use Rattle.joining.proofs.parts.part_lengths.Statement.{statement}
use Rattle.joining.proofs.parts.part_lengths.Tie as tie

-- the lengths, with those that are left to be written
abbrev Left : tie.Start → List ℕ → ℕ → List ℕ → Type 0
Left s lengths to left =
    let a = s.args in
    Writing a.lengths.now 0 (lengths_of (task_of a.left.now) (task_of a.right.now)) lengths to left

abbrev lists : tie.Start → List ℕ
lists s = list_lengths (task_of s.args.left.now) (task_of s.args.right.now)

abbrev first : tie.Start → List ℕ
first s = map operator_size (task_of s.args.left.now).operators

abbrev second : tie.Start → List ℕ
second s = map operator_size (task_of s.args.right.now).operators

all_left : (s : tie.Start) → Left s s.args.lengths.now 0 (lists s ++ (first s ++ second s))
unfolding lengths_of
all_left s = write_start

room : (s : tie.Start) → let a = s.args in 0 + length (lengths_of (task_of a.left.now) (task_of a.right.now)) ≤ length a.lengths.now
room s = omega (arith, s.requires.2)

-- after the lists
abbrev slices : tie.After-list_lengths-first → tie.After-shared_slice_known-2-1
slices c = c.before.before.before

abbrev start : tie.After-list_lengths-first → tie.Start
start c = (slices c).before.before

blocks_left :
    (c : tie.After-list_lengths-first) → let s = start c in
    Left s c.list_lengths-first.new.lengths c.list_lengths-first.result (first s ++ second s)
blocks_left c = write_part (all_left (start c)) c.list_lengths-first.ensures

-- after the first's operators
abbrev listed : tie.After-block_lengths-arg-1 → tie.After-list_lengths-first
listed c = c.before.before.before

abbrev begun : tie.After-block_lengths-second → tie.Start
begun c = start (listed c.before)

second_left :
    (c : tie.After-block_lengths-second) → let s = begun c in
    Left s c.block_lengths-second.new.lengths c.block_lengths-second.result (second s)
second_left c = write_part (blocks_left (listed c.before)) c.block_lengths-second.ensures

abbrev done : tie.After-block_lengths-arg-2-1 → tie.After-block_lengths-second
done c = c.before.before.before

abbrev given : tie.After-list_lengths-arg-1 → tie.After-shared_slice_known-2-1
given c = c.before.before

abbrev begin : tie.After-list_lengths-arg-1 → tie.Start
begin c = (given c).before.before

list-lengths-requires : tie.Need-list_lengths-first-requires
list-lengths-requires c κs =
    let s = begin c in
    let a = s.args in
    (s.requires.0, s.requires.1, omega (arith, lengths_count (task_of a.left.now) (task_of a.right.now), s.requires.2))

block-lengths-requires : tie.Need-block_lengths-second-requires
block-lengths-requires c κs =
    let d = listed c in
    let s = start d in
    let n = length-map (task_of s.args.left.now).operators operator_size in
    (s.requires.0, omega (arith, part_room (first s) (second s) (blocks_left d) (room s)))

block-lengths-requires-2 : tie.Need-block_lengths-requires
block-lengths-requires-2 c κs =
    let d = done c in
    let s = begun d in
    let n = length-map (task_of s.args.right.now).operators operator_size in
    (s.requires.1, omega (arith, write_room (second_left d) (room s)))

same_length : tie.Need-shape_of-lengths
same_length c = search rules

returns : tie.Need-returns
returns c = let e = c.before.before in write_last (second_left (done e.before)) e.block_lengths.ensures

pub part_lengths_spec : {M : Type 1} → statement M
part_lengths_spec =
    tie.close
    (tie.spec
    list-lengths-requires
    block-lengths-requires
    block-lengths-requires-2
    same_length
    returns)
