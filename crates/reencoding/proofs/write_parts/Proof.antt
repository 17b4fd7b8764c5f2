-- `reencoding::write_parts`: the initial values, the goal, the operators.
use Prim.Native.Nat.{ℕ}
use mathlib.Core.List.{List, ◌++◌}
use native.Mathlib.Omega.{arith}
use lib.ListN.{take}
use Rattle.task.specs.Reads.{task_of}
use Rattle.writing.specs.Writing.{Wrote, Writing}
use Rattle.writing.proofs.Writes.{write_start, write_part, write_last, part_room, write_room}
use Rattle.reencoding.specs.Words.{literals_by}
use Rattle.reencoding.specs.Parts.{lowered, operators_by, task_by}
use Rattle.reencoding.proofs.ImageLaws.{atoms_of_lem, values_length, goal_below, initial_below}
use borrow.Author.Rules.{rules}
use Rattle.reencoding.proofs.write_parts.Statement.{statement}
use Rattle.reencoding.proofs.write_parts.Tie as tie

-- the parts, each with what is left to be written at it
abbrev Left : tie.Start → List ℕ → ℕ → List ℕ → Type 0
Left s target to left =
    let a = s.args in
    Writing a.target.now a.at (task_by (task_of a.image.now) a.places.now a.sizes.now a.count) target to left

abbrev values : tie.Start → List ℕ
values s = lowered s.args.places.now (task_of s.args.image.now).initial (take s.args.count s.args.sizes.now)

abbrev goals : tie.Start → List ℕ
goals s = literals_by s.args.places.now (task_of s.args.image.now).goal

abbrev operators : tie.Start → List ℕ
operators s = operators_by s.args.places.now (task_of s.args.image.now).operators

first : (s : tie.Start) → Left s s.args.target.now s.args.at (values s ++ (goals s ++ operators s))
unfolding task_by
first s = write_start

-- the true atoms are read
abbrev lent : tie.After-initial → tie.After-shared_slice_known-2-1
lent c = c.before.before.before

abbrev start : tie.After-initial → tie.Start
start c = (lent c).before.before

-- after the values
abbrev trues : tie.After-values-goal → tie.After-initial
trues c = c.before.before

abbrev begun : tie.After-values-goal → tie.Start
begun c = start (trues c)

wrote_values :
    (c : tie.After-values-goal) → let s = begun c in
    Wrote s.args.target.now s.args.at (values s) c.values-goal.new.target c.values-goal.result
wrote_values c = rw (trues c).initial.ensures at c.values-goal.ensures

second : (c : tie.After-values-goal) → Left (begun c) c.values-goal.new.target c.values-goal.result (goals (begun c) ++ operators (begun c))
second c = write_part (first (begun c)) (wrote_values c)

-- after the goal
abbrev valued : tie.After-goal → tie.After-values-goal
valued c = c.before.before.before

abbrev goal : tie.After-literals-operators → tie.After-goal
goal c = c.before.before

abbrev task : tie.After-literals-operators → tie.Start
task c = begun (valued (goal c))

third : (c : tie.After-literals-operators) → Left (task c) c.literals-operators.new.target c.literals-operators.result (operators (task c))
third c = write_part (second (valued (goal c))) (rw (goal c).goal.ensures at c.literals-operators.ensures)

abbrev literals : tie.After-operators-arg-1 → tie.After-literals-operators
literals c = c.before.before.before

initial-requires : tie.Need-initial-requires
initial-requires c κs = search rules

values-requires : tie.Need-values-goal-requires
values-requires c κs =
    let d = c.before in
    let s = start d in
    let a = s.args in
    let v = s.requires.1 in
    let e = atoms_of_lem a.image.now a.places.now a.sizes.now a.count v in
    let n = values_length a.image.now a.places.now a.sizes.now a.count v in
    let room = part_room (values s) _ (first s) s.requires.2 in
    (record { below = rw (d.initial.ensures, ← e) (initial_below _ s.requires.0); variable = λ x h. v.variable x (omega arith) }, v.sizes, omega arith)

goal-requires : tie.Need-goal-requires
goal-requires c κs = search rules

literals-requires : tie.Need-literals-operators-requires
literals-requires c κs =
    let d = c.before in
    let s = begun (valued d) in
    let a = s.args in
    let e = atoms_of_lem a.image.now a.places.now a.sizes.now a.count s.requires.1 in
    let room = part_room (goals s) _ (second (valued d)) s.requires.2 in
    (record { low = s.requires.1.low; room = rw d.goal.ensures room }, rw (d.goal.ensures, ← e) (goal_below _ s.requires.0))

operators-requires : tie.Need-operators-requires
operators-requires c κs =
    let d = literals c in
    let s = task d in
    let a = s.args in
    let e = atoms_of_lem a.image.now a.places.now a.sizes.now a.count s.requires.1 in
    (s.requires.0, e, record { low = s.requires.1.low; room = write_room (third d) s.requires.2 })

same_length : tie.Need-shape_of-target
same_length c = search rules

returns : tie.Need-returns
returns c =
    let o = c.before.before in
    write_last (third (literals o.before)) o.operators.ensures

pub write_parts_spec : {M : Type 1} → statement M
write_parts_spec =
    tie.close
    (tie.spec
    initial-requires
    values-requires
    goal-requires
    literals-requires
    operators-requires
    same_length
    returns)
