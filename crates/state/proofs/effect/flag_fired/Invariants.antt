-- The flags of all rows are those of the rows that are left, added to the flags so far.
use Rattle.std.proofs.Common.{◌≡◌}
use Rattle.task.specs.Walk.{operator_in}
use Rattle.task.specs.Rows.{rows_left}
use Rattle.state.specs.Flags.{flag_fired}
use Rattle.state.proofs.effect.flag_fired.Given as goal

abbrev pub invariant-loop-effect : goal.invariant-loop-effect
invariant-loop-effect l =
    flag_fired l.state (operator_in l.block).rows l.fn.flags ≡ flag_fired l.state (rows_left l.effect-iterator) l.flags
