use mathlib.Core.Path.{sym, ◌∙◌}
use native.Mathlib.Omega.{arith}
use Rattle.directory.proofs.Laws.{directory_lies}
use Rattle.task.proofs.Questions.{task_read}
use Rattle.task.proofs.goal.Statement.{statement}
use Rattle.task.proofs.goal.Tie as tie

part-requires : tie.Need-part-requires
part-requires c κs = directory_lies _ _ _ (task_read _ c.requires).directory (omega arith)

returns : tie.Need-returns
returns c = c.part.ensures ∙ sym (task_read _ c.requires).goal

pub goal_spec : {M : Type 1} → statement M
goal_spec = tie.close (tie.spec
    part-requires
    returns)
