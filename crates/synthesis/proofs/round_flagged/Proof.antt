-- `synthesis::round_flagged`: the test, the limit, the next set. Assumes nothing.
use Prim.Native.Nat.{ℕ}
use mathlib.Core.Bool.{false}
use mathlib.Core.List.{List}
use mathlib.Core.Path.{◌≡◌, sym, ◌∙◌, subst}
use native.Mathlib.Omega.{arith}
use borrow.Author.Tests.{not-true, not-false}
use Rattle.definitions.specs.Lists.{all}
use Rattle.definitions.specs.Image.{Task}
use Rattle.definitions.specs.Synthesis.{tested, passes}
use Rattle.clause.specs.Rows.{clauses_of}
use Rattle.task.specs.Reads.{task_of}
use Rattle.synthesis.specs.declared.Step.{Step}
use Rattle.synthesis.specs.Rounds.{Stepped}
use Rattle.synthesis.proofs.Rounds.{test_passes, test_fails, step_built}
use borrow.Author.Rules.{rules}
use Rattle.synthesis.proofs.round_flagged.Statement.{statement}
use Rattle.synthesis.proofs.round_flagged.Tie as tie

-- after the test: the start, the task, the clauses and their flags
abbrev after_test : Type 0
after_test = tie.After-test

abbrev lent : tie.After-test-arg-4-1 → tie.After-test-arg-1
lent c = c.before.before.before

abbrev known : tie.After-test-arg-4-1 → tie.After-slice_known-3-1
known c = (lent c).before.before.before

abbrev shared : tie.After-test-arg-4-1 → tie.After-shared_slice_known-2-1
shared c = (known c).before.before.before

abbrev start_of : tie.After-test-arg-4-1 → tie.Start
start_of c = (shared c).before.before

abbrev start : after_test → tie.Start
start d = start_of d.before

abbrev task : after_test → Task
task d = task_of (start d).args.image.now

abbrev set : after_test → List (List ℕ)
set d = clauses_of (start d).args.clauses.now

abbrev flags : after_test → List ℕ
flags d = d.test.new.failing

-- where a flag is looked for: the test
abbrev back_due : tie.After-some_flag → tie.After-due-1
back_due c = c.before.before

abbrev back_fails : tie.After-some_flag → tie.After-slice_known-7-1
back_fails c = (back_due c).before.before.before

abbrev back_marks : tie.After-some_flag → tie.After-marks-1
back_marks c = (back_fails c).before.before.before

abbrev test_of : tie.After-some_flag → after_test
test_of c = (back_marks c).before

-- where a flag was found: a clause fails
abbrev test_before : tie.Else-not-some_flag → after_test
test_before c = test_of c.before

fails : (c : tie.Else-not-some_flag) → let d = test_before c in all passes (tested (task d) (set d)) ≡ false
fails c =
    let d = test_before c in
    let f = c.some_flag in
    test_fails (task d) (set d) (flags d) d.test.ensures.0 f.result f.ensures (c.if-not-some_flag.false)

-- where the next set is built: the buffers lent
abbrev lent_next : tie.After-next_set-arg-3-1 → tie.After-next_set-arg-2-1
lent_next c = c.before

abbrev not_last : tie.After-next_set-arg-3-1 → tie.Else-last
not_last c = (lent_next c).before.before

-- where it is the step
abbrev back_work : tie.After-step_to → tie.After-slice_known-11-1
back_work c = c.before.before.before

abbrev back_fails_2 : tie.After-step_to → tie.After-slice_known-10-1
back_fails_2 c = (back_work c).before.before

abbrev built : tie.After-step_to → tie.After-next_set
built c = (back_fails_2 c).before.before

test-requires : tie.Need-test-requires
test-requires c κs =
    let p = (start_of c).requires in
    (record { read = p.0.round.read; room = p.0.marked; flagged = p.1 }, p.2)

some-flag-requires : tie.Need-some_flag-requires
some-flag-requires c κs = search rules

same_length : tie.Need-shape_of-marks-then-not-some_flag
same_length c = search rules

same-length-2 : tie.Need-shape_of-fails-then-not-some_flag
same-length-2 c = search rules

same-length-3 : tie.Need-shape_of-failing-then-not-some_flag
same-length-3 c = search rules

same-length-4 : tie.Need-shape_of-due-then-not-some_flag
same-length-4 c = search rules

returns : tie.Need-returns-then-not-some_flag
returns c =
    let d = test_of c.before in
    let f = c.some_flag in
    test_passes (task d) (set d) (flags d) d.test.ensures.0 f.result f.ensures (c.if-not-some_flag.true)

same-length-5 : tie.Need-shape_of-marks-then-last
same-length-5 c = search rules

same-length-6 : tie.Need-shape_of-fails-then-last
same-length-6 c = search rules

same-length-7 : tie.Need-shape_of-failing-then-last
same-length-7 c = search rules

same-length-8 : tie.Need-shape_of-due-then-last
same-length-8 c = search rules

returns-2 : tie.Need-returns-then-last
returns-2 c = (fails c.before, c.if-last.true)

next-set-requires : tie.Need-next_set-requires
next-set-requires c κs =
    let d = test_before (not_last c).before in
    let p = (start d).requires in
    let t = d.test in
    record {
      round = p.0.round;
      flags = t.ensures.0;
      noted = t.ensures.1;
      room = omega (arith, p.0.marked, t.auto.marks);
      flagged = t.auto.fails ∙ p.1;
      fits = p.0.room;
    }

step-to-requires : tie.Need-step_to-requires
step-to-requires c κs = search rules

same-length-9 : tie.Need-shape_of-marks
same-length-9 c = search rules

same-length-10 : tie.Need-shape_of-fails
same-length-10 c = search rules

same-length-11 : tie.Need-shape_of-failing
same-length-11 c = search rules

same-length-12 : tie.Need-shape_of-due
same-length-12 c = search rules

same-length-13 : tie.Need-shape_of-work
same-length-13 c = search rules

returns-3 : tie.Need-returns
returns-3 c =
    let s = built c in
    let l = not_last s.before in
    let d = test_before l.before in
    let a = (start d).args in
    let w = s.next_set.new.work in
    subst (λ (z : Step). Stepped (task d) a.n a.rows a.last (set d) w z) (sym c.step_to.ensures)
    (step_built (task d) a.n a.rows a.last (set d) w s.next_set.result s.next_set.ensures (fails l.before) l.if-last.false)

pub round_flagged_spec : {M : Type 1} → statement M
round_flagged_spec =
    tie.close
    (tie.spec
    test-requires
    some-flag-requires
    same_length
    same-length-2
    same-length-3
    same-length-4
    returns
    same-length-5
    same-length-6
    same-length-7
    same-length-8
    returns-2
    next-set-requires
    step-to-requires
    same-length-9
    same-length-10
    same-length-11
    same-length-12
    same-length-13
    returns-3)
