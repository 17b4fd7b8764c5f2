use mathlib.Core.Path.{sym, ◌∙◌}
use native.Mathlib.Omega.{arith}
use Rattle.directory.proofs.Laws.{directory_lies}
use Rattle.task.proofs.Questions.{task_read}
use Rattle.task.proofs.initial.Statement.{statement}
use Rattle.task.proofs.initial.Tie as tie

part-requires : tie.Need-part-requires
part-requires c κs = directory_lies _ _ _ (task_read _ c.requires).directory (omega arith)

returns : tie.Need-returns
returns c = c.part.ensures ∙ sym (task_read _ c.requires).initial

pub initial_spec : {M : Type 1} → statement M
initial_spec = tie.close (tie.spec
    part-requires
    returns)
