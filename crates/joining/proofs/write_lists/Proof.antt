-- `joining::write_lists`: the initial lists, then the goals.
use mathlib.Core.Path.{refl, sym, ap₂}
use mathlib.Core.List.{List, ◌++◌}
use Prim.Native.Nat.{ℕ, ◌+◌, ◌*◌, ◌≤◌}
use native.Mathlib.Omega.{arith}
use Rattle.definitions.specs.Literal.{most_atoms}
use Rattle.definitions.specs.Image.{Task}
use Rattle.definitions.specs.Join.{shifted}
use Rattle.task.specs.Reads.{task_of}
use Rattle.writing.specs.Writing.{Writing}
use Rattle.writing.proofs.Writes.{write_start, write_same, write_part, write_last, part_room, write_room}
use Rattle.joining.specs.Parts.{lists_of}
use Rattle.joining.proofs.PartLaws.{lists_are, initial_given, goal_given}
use borrow.Author.Rules.{rules}
use Rattle.joining.proofs.write_lists.Statement.{statement}
use Rattle.joining.proofs.write_lists.Tie as tie

-- the start, from where the number of the first's atoms is known
abbrev lent : tie.After-atoms-before → tie.After-shared_slice_known-1
lent c = c.before.before.before

abbrev start : tie.After-atoms-before → tie.Start
start c = (lent c).before

-- where the initial lists are known, and where they are written
abbrev counted : tie.After-initial-2 → tie.After-atoms-before
counted c = c.before.before

abbrev known : tie.After-lists-goal → tie.After-initial-2
known c = c.before.before

-- where the goals are known
abbrev back : tie.After-goal-2 → tie.After-slice_known-2-1
back c = c.before.before

abbrev listed : tie.After-goal-2 → tie.After-lists-goal
listed c = (back c).before.before

-- the two tasks, and the number of the first's atoms
abbrev first : tie.After-initial-2 → Task
first c = task_of (start (counted c)).args.left.now

abbrev second : tie.After-initial-2 → Task
second c = task_of (start (counted c)).args.right.now

abbrev before : tie.After-initial-2 → ℕ
before c = (counted c).atoms-before.result

few : (c : tie.After-initial-2) → before c + (second c).atoms ≤ most_atoms
few c = omega (arith, (start (counted c)).requires.few, (counted c).atoms-before.ensures.0)

-- the initial lists, and the goals, one after the other
abbrev initial : tie.After-initial-2 → List ℕ
initial c = c.initial.result.now ++ shifted (before c) c.initial-2.result.now

abbrev goal : tie.After-initial-2 → List ℕ
goal c = (first c).goal ++ shifted (2 * before c) (second c).goal

-- words that are left to be written
abbrev Left : tie.After-initial-2 → List ℕ → ℕ → List ℕ → Type 0
Left c target to left = let a = (start (counted c)).args in Writing a.target.now a.at (lists_of (first c) (second c)) target to left

all_left : (c : tie.After-initial-2) → let a = (start (counted c)).args in Left c a.target.now a.at (initial c ++ goal c)
all_left c =
    write_same
    (lists_are (first c) (second c) _ (counted c).atoms-before.ensures.0 _ _ _ _ c.initial.ensures c.initial-2.ensures refl refl)
    write_start

goal_left :
    (c : tie.After-goal-2) → let l = listed c in let d = known l in
    Left d l.lists-goal.new.target l.lists-goal.result (c.goal.result.now ++ shifted (2 * before d) c.goal-2.result.now)
goal_left c =
    let l = listed c in
    let n = before (known l) in
    write_same (sym (ap₂ (λ a b. a ++ shifted (2 * n) b) c.goal.ensures c.goal-2.ensures))
    (write_part (all_left (known l)) l.lists-goal.ensures)

atoms-requires : tie.Need-atoms-before-requires
atoms-requires c κs = search rules

cast-before : tie.Need-overflow_cast-before
cast-before c = search rules

initial-requires : tie.Need-initial-requires
initial-requires c κs = search rules

initial-requires-2 : tie.Need-initial-requires-2
initial-requires-2 c κs = search rules

lists-requires : tie.Need-lists-goal-requires
lists-requires c κs =
    let d = c.before in
    let p = (start (counted d)).requires in
    (initial_given _ p.second _ (few d) _ d.initial-2.ensures, part_room (initial d) (goal d) (all_left d) p.room)

goal-requires : tie.Need-goal-requires
goal-requires c κs = search rules

goal-requires-2 : tie.Need-goal-requires-2
goal-requires-2 c κs = search rules

mul-lists : tie.Need-overflow_mul-before
mul-lists c = search rules

lists-requires-2 : tie.Need-lists-requires
lists-requires-2 c κs =
    let g = c.before in
    let d = known (listed g) in
    let p = (start (counted d)).requires in
    (goal_given _ p.second _ (few d) _ g.goal-2.ensures, write_room (goal_left g) p.room)

same_length : tie.Need-shape_of-target
same_length c = search rules

returns : tie.Need-returns
returns c =
    let w = c.before.before in
    write_last (goal_left w.before.before) w.lists.ensures

pub write_lists_spec : {M : Type 1} → statement M
write_lists_spec =
    tie.close
    (tie.spec
    atoms-requires
    cast-before
    initial-requires
    initial-requires-2
    lists-requires
    goal-requires
    goal-requires-2
    mul-lists
    lists-requires-2
    same_length
    returns)
