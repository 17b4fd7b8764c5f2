-- `joining::parts::list_lengths`: the lengths of both initial lists, and of both goals, added.
use Prim.Native.Nat.{◌+◌}
use native.Mathlib.Omega.{arith}
use mathlib.Core.Path.{◌≡◌, ap}
use lib.ListN.{length}
use Rattle.task.specs.Reads.{task_of}
use Rattle.task.proofs.BlockSizes.{task_sizes}
use Rattle.writing.proofs.Writes.{wrote_same}
use Rattle.joining.proofs.PartLaws.{list_lengths_lem}
use borrow.Author.Rules.{rules}
use Rattle.joining.proofs.parts.list_lengths.Statement.{statement}
use Rattle.joining.proofs.parts.list_lengths.Tie as tie

-- the start, from where all lists are known
abbrev lists : tie.After-goal-2 → tie.After-initial
lists c = c.before.before.before

abbrev slices : tie.After-goal-2 → tie.After-shared_slice_known-2-1
slices c = (lists c).before.before

abbrev start : tie.After-goal-2 → tie.Start
start c = (slices c).before.before

-- their lengths
initial_is :
    (c : tie.After-goal-2) → let s = (start c).args in
    length (lists c).initial.result.now + length c.initial-2.result.now
    ≡ length (task_of s.left.now).initial + length (task_of s.right.now).initial
initial_is c = let a = ap length (lists c).initial.ensures in let b = ap length c.initial-2.ensures in omega arith

goal_is :
    (c : tie.After-goal-2) → let s = (start c).args in
    length c.goal.result.now + length c.goal-2.result.now
    ≡ length (task_of s.left.now).goal + length (task_of s.right.now).goal
goal_is c = let a = ap length c.goal.ensures in let b = ap length c.goal-2.ensures in omega arith

initial-requires : tie.Need-initial-requires
initial-requires c κs = search rules

initial-requires-2 : tie.Need-initial-requires-2
initial-requires-2 c κs = search rules

add-initial : tie.Need-overflow_add-initial
add-initial c = search rules

goal-requires : tie.Need-goal-requires
goal-requires c κs = search rules

goal-requires-2 : tie.Need-goal-requires-2
goal-requires-2 c κs = search rules

add-goal : tie.Need-overflow_add-goal
add-goal c = search rules

pair-requires : tie.Need-pair-requires
pair-requires c κs =
    let d = c.before in
    let s = start d in
    let a = (task_sizes _ s.requires.0).words in
    let b = (task_sizes _ s.requires.1).words in
    let i = initial_is d in
    let g = goal_is d in
    (omega arith, omega arith, s.requires.2)

same_length : tie.Need-shape_of-lengths
same_length c = search rules

returns : tie.Need-returns
returns c =
    let p = c.before.before in
    let d = p.before.before in
    wrote_same (list_lengths_lem _ _ _ _ (initial_is d) (goal_is d)) p.pair.ensures

pub list_lengths_spec : {M : Type 1} → statement M
list_lengths_spec =
    tie.close
    (tie.spec
    initial-requires
    initial-requires-2
    add-initial
    goal-requires
    goal-requires-2
    add-goal
    pair-requires
    same_length
    returns)
