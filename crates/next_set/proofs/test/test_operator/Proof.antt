-- `next_set::test::test_operator`: the clauses judged, and their flags added and noted. Assumes nothing.
use Prim.Native.Nat.{ℕ, ◌<◌}
use mathlib.Core.Bool.{not}
use mathlib.Core.List.{List}
use mathlib.Core.Path.{◌≡◌, sym, ◌∙◌}
use native.Mathlib.Omega.{arith}
use lib.ListN.{length}
use Rattle.definitions.specs.Clauses.{width}
use Rattle.definitions.specs.Image.{most_operators}
use Rattle.definitions.specs.Kept.{kept}
use Rattle.definitions.specs.Step.{operator_at}
use Rattle.clause.specs.Rows.{row_count, clauses_of}
use Rattle.task.specs.Reads.{task_of}
use Rattle.judge.specs.Judging.{fail_flags}
use Rattle.next_set.proofs.Testing.{few_operators}
use borrow.Author.Rules.{rules}
use Rattle.next_set.proofs.test.test_operator.Statement.{statement}
use Rattle.next_set.proofs.test.test_operator.Tie as tie

-- where the clauses are judged
abbrev judged : Type 0
judged = tie.After-judge_operator

abbrev start : judged → tie.Start
start d = let p = d.before.before.before in let q = p.before.before.before in q.before.before.before

abbrev fails : judged → List ℕ
fails d = d.judge_operator.new.fails

few : (d : judged) → (start d).args.operator < most_operators
few d =
    let p = (start d).requires in
    omega (arith, p.1, few_operators (start d).args.image.now p.0.read.task)

flagged : (d : judged) → length (fails d) ≡ row_count (start d).args.clauses.now
flagged d = d.judge_operator.auto.fails ∙ (start d).requires.0.flagged

abbrev start_from_judge_operator : tie.After-judge_operator-arg-2-1 → tie.Start
start_from_judge_operator c = let p = c.before.before.before in let q = p.before.before.before in q.before.before

judge-operator-requires : tie.Need-judge_operator-requires
judge-operator-requires c κs = let p = (start_from_judge_operator c).requires in (p.0, p.1)

abbrev judged_from_add_flags : tie.After-add_flags-arg-2-1 → judged
judged_from_add_flags c = let p = c.before.before.before in p.before.before.before

mul-add-flags : tie.Need-overflow_mul-operator
unfolding width
mul-add-flags c = record { fits = omega (arith, few (judged_from_add_flags c)) }

add-flags-requires : tie.Need-add_flags-requires
unfolding width
add-flags-requires c κs =
    let d = judged_from_add_flags c in
    (flagged d, flagged d ∙ sym (start d).requires.2, omega (arith, few d))

same_length : tie.Need-shape_of-marks
same_length c = search rules

same-length-2 : tie.Need-shape_of-fails
same-length-2 c = search rules

same-length-3 : tie.Need-shape_of-failing
same-length-3 c = search rules

same-length-4 : tie.Need-shape_of-due
same-length-4 c = search rules

abbrev add_flags_from_slice_known8 : tie.After-slice_known-8-1 → tie.After-add_flags
add_flags_from_slice_known8 c = let p = c.before.before.before in p.before

abbrev judged_from_add_flags_2 : tie.After-add_flags → judged
judged_from_add_flags_2 c = let p = c.before.before.before in let q = p.before.before.before in q.before

returns : tie.Need-returns
unfolding fail_flags width
returns c =
    let e = add_flags_from_slice_known8 c in
    let d = judged_from_add_flags_2 e in
    let a = (start d).args in
    let o = operator_at (task_of a.image.now) a.operator in
    e.add_flags.ensures (λ f. not (kept a.atoms (clauses_of a.clauses.now) o f)) d.judge_operator.ensures

pub test_operator_spec : {M : Type 1} → statement M
test_operator_spec =
    tie.close
    (tie.spec
    judge-operator-requires
    mul-add-flags
    add-flags-requires
    same_length
    same-length-2
    same-length-3
    same-length-4
    returns)
