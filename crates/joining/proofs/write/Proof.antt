-- `joining::write`: the header, the lists, the operators.
use mathlib.Core.List.{List, ◌++◌}
use Prim.Native.Nat.{ℕ}
use Rattle.definitions.specs.Image.{Task}
use Rattle.definitions.specs.TaskWords.{task_words}
use Rattle.definitions.specs.Join.{joined}
use Rattle.task.specs.Reads.{task_of}
use Rattle.writing.specs.Writing.{Writing}
use Rattle.writing.proofs.Writes.{write_start, write_same, write_part, write_last, part_room, write_room}
use Rattle.joining.specs.Parts.{header_of, lists_of, operators_of}
use Rattle.joining.proofs.PartLaws.{image_is, all_room, part_given}
use borrow.Author.Rules.{rules}
use Rattle.joining.proofs.write.Statement.{statement}
use Rattle.joining.proofs.write.Tie as tie

-- the start, from where the header is written
abbrev lent : tie.After-header-arg-1 → tie.After-shared_slice_known-1
lent c = c.before.before.before

abbrev start : tie.After-header-arg-1 → tie.Start
start c = (lent c).before

-- where the header and the lists are written
abbrev headed : tie.After-write_lists-arg-1 → tie.After-header-lists
headed c = c.before.before.before

abbrev listed : tie.After-write_operators-arg-1 → tie.After-write_lists-operators
listed c = c.before.before.before

-- the two tasks, and the parts of their join
abbrev first : tie.After-header-lists → Task
first c = task_of (start c.before).args.left.now

abbrev second : tie.After-header-lists → Task
second c = task_of (start c.before).args.right.now

abbrev lists : tie.After-header-lists → List ℕ
lists c = lists_of (first c) (second c)

abbrev operators : tie.After-header-lists → List ℕ
operators c = operators_of (first c) (second c)

-- words that are left to be written
abbrev Left : tie.After-header-lists → List ℕ → ℕ → List ℕ → Type 0
Left c target to left = Writing (start c.before).args.target.now 0 (task_words (joined (first c) (second c))) target to left

all_left : (c : tie.After-header-lists) → Left c (start c.before).args.target.now 0 (header_of (first c) (second c) ++ (lists c ++ operators c))
all_left c = write_same (image_is (first c) (second c)) write_start

parts_left : (c : tie.After-header-lists) → Left c c.header-lists.new.target c.header-lists.result (lists c ++ operators c)
parts_left c = write_part (all_left c) c.header-lists.ensures

operators_left :
    (c : tie.After-write_lists-operators) → let h = headed c.before in Left h c.write_lists-operators.new.target c.write_lists-operators.result (operators h)
operators_left c = write_part (parts_left (headed c.before)) c.write_lists-operators.ensures

header-requires : tie.Need-header-lists-requires
header-requires c κs = search rules

write-lists-requires : tie.Need-write_lists-operators-requires
write-lists-requires c κs =
    let h = headed c in
    let j = (start h.before).requires in
    part_given j (part_room (lists h) (operators h) (parts_left h) (all_room j))

write-operators-requires : tie.Need-write_operators-requires
write-operators-requires c κs =
    let d = listed c in
    let j = (start (headed d.before).before).requires in
    part_given j (write_room (operators_left d) (all_room j))

same_length : tie.Need-shape_of-target
same_length c = search rules

returns : tie.Need-returns
returns c = let w = c.before.before in write_last (operators_left (listed w.before)) w.write_operators.ensures

pub write_spec : {M : Type 1} → statement M
write_spec = tie.close (tie.spec
    header-requires
    write-lists-requires
    write-operators-requires
    same_length
    returns)
