-- The verdict of all rows is that of the rows that are left.
use Rattle.std.proofs.Common.{◌≡◌, ◌-◌, ◌≤◌, length, drop}
use Rattle.definitions.specs.Image.{rows_of}
use Rattle.task.specs.Walk.{rows_verdict}
use Rattle.task.proofs.block.check_rows.Given as goal

abbrev pub invariant-loop : goal.invariant-loop
invariant-loop l = record {
  inside : l.at ≤ length l.block;
  rest : rows_verdict l.atoms l.i l.fn.precondition (rows_of l.fn.rows (drop l.fn.from l.block))
      ≡ rows_verdict l.atoms l.i l.right (rows_of (l.fn.rows - l.counter) (drop l.at l.block));
}
