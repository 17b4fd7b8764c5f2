-- `joining::write_operators`: the first's operators, then the second's behind the first's atoms.
use mathlib.Core.List.{List, ◌++◌}
use Prim.Native.Nat.{ℕ}
use native.Mathlib.Omega.{arith}
use Rattle.definitions.specs.Image.{Task}
use Rattle.task.specs.Reads.{task_of}
use Rattle.writing.specs.Writing.{Writing}
use Rattle.writing.proofs.Writes.{write_start, write_same, write_part, write_last, part_room, write_room}
use Rattle.joining.specs.Behind.{operators_behind}
use Rattle.joining.specs.Parts.{operators_of}
use Rattle.joining.proofs.PartLaws.{operators_are}
use borrow.Author.Rules.{rules}
use Rattle.joining.proofs.write_operators.Statement.{statement}
use Rattle.joining.proofs.write_operators.Tie as tie

-- the start, from where the number of the first's atoms is known
abbrev lent : tie.After-atoms-before → tie.After-shared_slice_known-1
lent c = c.before.before.before

abbrev start : tie.After-atoms-before → tie.Start
start c = (lent c).before

-- where the first's operators are written, and where the second's are to be
abbrev counted : tie.After-operators-second → tie.After-atoms-before
counted c = c.before.before

abbrev made : tie.After-operators-arg-2-1 → tie.After-operators-second
made c = c.before.before.before

-- the two tasks, and the words of their operators
abbrev first : tie.After-atoms-before → Task
first c = task_of (start c).args.left.now

abbrev second : tie.After-atoms-before → Task
second c = task_of (start c).args.right.now

abbrev own : tie.After-atoms-before → List ℕ
own c = operators_behind 0 (first c).operators

abbrev other : tie.After-atoms-before → List ℕ
other c = operators_behind c.atoms-before.result (second c).operators

-- words that are left to be written
abbrev Left : tie.After-atoms-before → List ℕ → ℕ → List ℕ → Type 0
Left c target to left = let a = (start c).args in Writing a.target.now a.at (operators_of (first c) (second c)) target to left

all_left : (c : tie.After-atoms-before) → let a = (start c).args in Left c a.target.now a.at (own c ++ other c)
all_left c = write_same (operators_are (first c) (second c) _ c.atoms-before.ensures.0) write_start

other_left : (c : tie.After-operators-second) → Left (counted c) c.operators-second.new.target c.operators-second.result (other (counted c))
other_left c = write_part (all_left (counted c)) c.operators-second.ensures

atoms-requires : tie.Need-atoms-before-requires
atoms-requires c κs = search rules

cast-before : tie.Need-overflow_cast-before
cast-before c = search rules

operators-requires : tie.Need-operators-second-requires
operators-requires c κs =
    let d = c.before in
    let p = (start d).requires in
    (p.first, omega (arith, p.few), part_room (own d) (other d) (all_left d) p.room)

operators-requires-2 : tie.Need-operators-requires
operators-requires-2 c κs =
    let d = counted (made c) in
    let p = (start d).requires in
    (p.second, omega (arith, p.few, d.atoms-before.ensures.0), write_room (other_left (made c)) p.room)

same_length : tie.Need-shape_of-target
same_length c = search rules

returns : tie.Need-returns
returns c = let w = c.before.before in write_last (other_left (made w.before)) w.operators.ensures

pub write_operators_spec : {M : Type 1} → statement M
write_operators_spec =
    tie.close
    (tie.spec
    atoms-requires
    cast-before
    operators-requires
    operators-requires-2
    same_length
    returns)
