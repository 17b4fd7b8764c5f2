-- No clause is the lowest that is false, or one is.
use Rattle.std.proofs.Common.{◌∙◌}
use Rattle.agreement.proofs.OkLaws.{ok_held}
use Rattle.agreement.proofs.states.all_hold.Goals as goal

pub returns : goal.returns
returns c = c.is_ok.ensures.value ∙ ok_held _ _ _ c.check_true.ensures
