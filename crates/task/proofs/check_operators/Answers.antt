-- The operators that are left decide.
use Rattle.std.proofs.Common.{◌∙◌, ◌-◌, ◌+◌, sym, arith}
use Rattle.directory.proofs.Laws.{directory_lies}
use Rattle.answer.proofs.Laws.{left_by}
use Rattle.task.proofs.Questions.{operators_refused, operators_on, operators_end}
use Rattle.task.proofs.check_operators.Goals as goal

pub part-requires : goal.part-requires
part-requires c = directory_lies _ _ _ c.requires.directory (omega arith)

pub returns-in_err-check : goal.returns-in_err-check
returns-in_err-check c =
    let k = c.args.operators - c.loop-i.i in
    left_by _ _ c.from_residual.ensures.1
    ∙ operators_refused c.args.atoms c.args.image.now _ c.loop-i.i k (k - 1) (omega arith) c.part.ensures _ c.in_err-check.ensures
    ∙ sym c.loop-i.invariant

pub loop-i-preserved : goal.loop-i-preserved
loop-i-preserved c =
    let k = c.args.operators - c.loop-i.i in
    c.loop-i.invariant
    ∙ operators_on c.args.atoms c.args.image.now _ c.loop-i.i k (c.args.operators - (c.loop-i.i + 1)) (omega arith) c.part.ensures c.in_ok-check.ensures

pub returns : goal.returns
returns c =
    let k = c.args.operators - c.loop-i.i in
    operators_end c.args.atoms c.args.image.now c.loop-i.i k (omega arith) ∙ sym c.loop-i.invariant
