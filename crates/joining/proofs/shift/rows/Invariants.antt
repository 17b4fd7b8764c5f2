-- The rows that are left are over the atoms behind the others, and are left to be written.
use Rattle.std.proofs.Common.{◌-◌}
use Rattle.definitions.specs.Literal.{most_atoms}
use Rattle.task.specs.Rows.{rows_left}
use Rattle.task.specs.Post.{RowsOver}
use Rattle.writing.specs.Writing.{Writing}
use Rattle.joining.specs.Behind.{rows_behind}
use Rattle.joining.proofs.shift.rows.Given as goal

abbrev pub invariant-loop-effect : goal.invariant-loop-effect
invariant-loop-effect l = record {
  over : RowsOver (most_atoms - l.before) (rows_left l.effect-iterator);
  words : Writing l.fn.target l.at (rows_behind l.before (rows_left l.list)) l.target l.to (rows_behind l.before (rows_left l.effect-iterator));
}
