use mathlib.Core.Path.{sym, ◌∙◌}
use native.Mathlib.Omega.{arith}
use Rattle.task.proofs.Questions.{task_read}
use borrow.Author.Rules.{rules}
use Rattle.task.proofs.operators.Statement.{statement}
use Rattle.task.proofs.operators.Tie as tie

shared-slice-read-wide : tie.Need-bounds-image-1
shared-slice-read-wide c = omega (arith, (task_read _ c.requires).room)

wide-requires : tie.Need-wide-requires
wide-requires c κs = search rules

returns : tie.Need-returns
returns c =
    let t = task_read _ c.requires in
    (c.wide.ensures.0 ∙ sym t.count, omega (arith, c.wide.ensures.0))

pub operators_spec : {M : Type 1} → statement M
operators_spec = tie.close (tie.spec
    shared-slice-read-wide
    wide-requires
    returns)
