-- What all rows make of the state and the flags is what the rows that are left make of them so far.
use Rattle.std.proofs.Common.{◌≡◌}
use Rattle.task.specs.Walk.{operator_in}
use Rattle.task.specs.Rows.{rows_left}
use Rattle.state.specs.Flags.{changed, unflagged}
use Rattle.state.proofs.effect.change.Given as goal

abbrev pub invariant-loop-row : goal.invariant-loop-row
invariant-loop-row l = record {
  state :
      changed l.adds (operator_in l.block).rows l.fn.flags l.fn.state ≡ changed l.adds (rows_left l.row-iterator) l.flags l.state;
  flags : unflagged l.adds (operator_in l.block).rows l.fn.flags ≡ unflagged l.adds (rows_left l.row-iterator) l.flags;
}
