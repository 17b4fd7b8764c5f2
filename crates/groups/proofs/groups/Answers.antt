-- The checker's questions, then the groups.
use Rattle.std.proofs.Common.{◌∙◌}
use Rattle.answer.proofs.Laws.{left_unwritten}
use Rattle.checker.proofs.Accepting.{accepted}
use Rattle.groups.proofs.Calls.{groups_refused, groups_accepted}
use Rattle.groups.proofs.groups.Goals as goal

pub returns-in_err-accept : goal.returns-in_err-accept
returns-in_err-accept c = left_unwritten _ _ _ _ c.from_residual.ensures.1 (groups_refused _ _ _ _ _ c.in_err-accept.ensures)

pub groups_read-requires : goal.groups_read-requires
groups_read-requires c = let a = accepted _ _ _ c.in_ok-accept.ensures in (a.reads, a.rows)

pub returns : goal.returns
returns c = c.groups_read.ensures ∙ groups_accepted _ _ _ _ (accepted _ _ _ c.in_ok-accept.ensures)
