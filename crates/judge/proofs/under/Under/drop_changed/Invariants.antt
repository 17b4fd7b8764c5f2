-- The rows that are left are rows of the operator, and take what flags are still to go.
use Rattle.std.proofs.Common.{◌≡◌, List, ℕ}
use Rattle.clause.specs.Rows.{clauses_of}
use Rattle.task.specs.Rows.{rows_left}
use Rattle.judge.specs.Judging.{drop_changed}
use Rattle.judge.specs.Under.{operator_under, IsClosure}
use Rattle.judge.proofs.BlockRows.{Left}
use Rattle.judge.proofs.under.Under.drop_changed.Given as goal

abbrev pub invariant-loop-effect : goal.invariant-loop-effect
invariant-loop-effect l =
    let u = l.self in
    Left u.atoms (operator_under u) (rows_left l.effect-iterator)
    × ((ls : List ℕ) → IsClosure u ls l.marks
    → drop_changed u.atoms (clauses_of u.clauses.now) ls (operator_under u).rows l.fn.flags
    ≡ drop_changed u.atoms (clauses_of u.clauses.now) ls (rows_left l.effect-iterator) l.flags)
