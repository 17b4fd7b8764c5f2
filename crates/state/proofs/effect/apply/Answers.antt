-- The deletes of the rows that fire, and then the adds.
use Rattle.state.proofs.Calls.{flags_cleared, rows_applied}
use Rattle.state.proofs.effect.apply.Goals as goal

pub returns : goal.returns
returns c = (
  rows_applied _ _ _ c.requires _ c.flag_fired.ensures _ _ c.change.ensures _ _ c.change-2.ensures,
  flags_cleared _ _ _ c.requires _ c.flag_fired.ensures _ _ c.change.ensures _ _ c.change-2.ensures,
)
