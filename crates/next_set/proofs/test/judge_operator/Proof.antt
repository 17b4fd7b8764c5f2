-- `next_set::test::judge_operator`: all clauses are judged under the operator of its block. Assumes nothing.
use mathlib.Core.Path.{◌∙◌, ap}
use Rattle.clause.specs.Rows.{clauses_of}
use Rattle.judge.specs.Judging.{fail_flags}
use Rattle.next_set.proofs.Testing.{read_bulk}
use borrow.Author.Rules.{rules}
use Rattle.next_set.proofs.test.judge_operator.Statement.{statement}
use Rattle.next_set.proofs.test.judge_operator.Tie as tie

-- where the block is known
abbrev found : Type 0
found = tie.After-operator_block-block

abbrev start : found → tie.Start
start d = let p = d.before.before.before in p.before.before

abbrev judged : tie.After-judge → found
judged c = c.before.before.before

abbrev start_from_slice_known2 : tie.After-slice_known-2-1 → tie.Start
start_from_slice_known2 c = let p = c.before.before.before in p.before

operator-block-requires : tie.Need-operator_block-block-requires
operator-block-requires c κs = ((start_from_slice_known2 c).requires.0.read.task, (start_from_slice_known2 c).requires.1)

judge-requires : tie.Need-judge-requires
judge-requires c κs =
    let d = c.before.before in
    let a = (start d).args in
    read_bulk a.image.now a.clauses.now _ a.atoms a.operator a.marks.now a.fails.now (start d).requires.0 (start d).requires.1
    d.operator_block-block.ensures

same_length : tie.Need-shape_of-marks
same_length c = search rules

same-length-2 : tie.Need-shape_of-fails
same-length-2 c = search rules

abbrev judge_from_slice_known4 : tie.After-slice_known-4-1 → tie.After-judge
judge_from_slice_known4 c = let p = c.before.before.before in p.before

returns : tie.Need-returns
returns c =
    let j = judge_from_slice_known4 c in
    let d = judged j in
    let a = (start d).args in
    j.judge.ensures ∙ ap (λ o. fail_flags a.atoms (clauses_of a.clauses.now) o (clauses_of a.clauses.now)) d.operator_block-block.ensures.operator

pub judge_operator_spec : {M : Type 1} → statement M
judge_operator_spec =
    tie.close (tie.spec
    operator-block-requires
    judge-requires
    same_length
    same-length-2
    returns)
