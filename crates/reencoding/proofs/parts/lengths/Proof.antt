-- `reencoding::parts::lengths`: the lengths of the first four parts, two and two, and then those of the operators.
use mathlib.Core.Path.{ap}
use Prim.Native.Nat.{◌*◌, ◌<◌}
use native.Mathlib.Omega.{arith}
use lib.ListN.{length}
use Rattle.task.specs.Reads.{task_of}
use Rattle.task.proofs.BlockSizes.{task_sizes}
use Rattle.writing.proofs.Writes.{wrote_same, wrote_both, wrote_size}
use Rattle.reencoding.proofs.PartLaws.{lengths_parts}
use borrow.Author.Rules.{rules}
use Rattle.reencoding.proofs.parts.lengths.Statement.{statement}
use Rattle.reencoding.proofs.parts.lengths.Tie as tie

-- the goal is read, and before it the number of atoms
abbrev counted : tie.After-goal-goal → tie.After-atoms-atoms
counted c = c.before

abbrev start : tie.After-goal-goal → tie.Start
start c = (counted c).before.before.before

-- after the first pair, and the second
abbrev goal : tie.After-pair-initial → tie.After-goal-goal
goal c = c.before.before

abbrev first : tie.After-pair-arg-2-1 → tie.After-pair-initial
first c = c.before.before.before

abbrev second : tie.After-block_lengths-arg-1 → tie.After-pair-blocks
second c = c.before.before.before

goal_small : (c : tie.After-goal-goal) → 2 * length c.goal-goal.result.now < 65536
goal_small c = omega (arith, ap length c.goal-goal.ensures, (task_sizes _ (start c).requires.0).words)

atoms-requires : tie.Need-atoms-atoms-requires
atoms-requires c κs = search rules

goal-requires : tie.Need-goal-goal-requires
goal-requires c κs = search rules

mul-pair : tie.Need-overflow_mul-count
mul-pair c = search rules

mul-pair-2 : tie.Need-overflow_mul-atoms
mul-pair-2 c = search rules

pair-requires : tie.Need-pair-initial-requires
pair-requires c κs = search rules

mul-pair-3 : tie.Need-overflow_mul-goal
mul-pair-3 c = search rules

pair-requires-2 : tie.Need-pair-blocks-requires
pair-requires-2 c κs =
    let d = first c in
    let s = (start (goal d)).requires in
    (omega (arith, s.1), goal_small (goal d), omega (arith, s.2, d.pair-initial.ensures.next, wrote_size d.pair-initial.ensures))

block-lengths-requires : tie.Need-block_lengths-requires
block-lengths-requires c κs = search rules

same_length : tie.Need-shape_of-lengths
same_length c = search rules

returns : tie.Need-returns
returns c =
    let b = c.before.before in
    let e = second b.before in
    let d = first e.before in
    let g = goal d in
    let s = (start g).args in
    let whole = lengths_parts s.count _ _ (task_of s.image.now) (counted g).atoms-atoms.ensures.0 (ap length g.goal-goal.ensures) in
    wrote_same whole (wrote_both d.pair-initial.ensures (wrote_both e.pair-blocks.ensures b.block_lengths.ensures))

pub lengths_spec : {M : Type 1} → statement M
lengths_spec =
    tie.close
    (tie.spec
    atoms-requires
    goal-requires
    mul-pair
    mul-pair-2
    pair-requires
    mul-pair-3
    pair-requires-2
    block-lengths-requires
    same_length
    returns)
