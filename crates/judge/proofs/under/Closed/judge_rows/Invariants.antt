-- The rows that are left are rows of the operator, and flag what clauses are still to be flagged.
use Rattle.std.proofs.Common.{◌≡◌}
use Rattle.task.specs.Rows.{rows_left}
use Rattle.judge.specs.Under.{operator_under, flag_by_rows}
use Rattle.judge.proofs.BlockRows.{Left}
use Rattle.judge.proofs.under.Closed.judge_rows.Given as goal

abbrev pub invariant-loop-effect : goal.invariant-loop-effect
invariant-loop-effect l =
    let u = l.self.under.now in
    Left u.atoms (operator_under u) (rows_left l.effect-iterator)
    × (flag_by_rows u (operator_under u).rows l.fn.fails ≡ flag_by_rows u (rows_left l.effect-iterator) l.fails)
