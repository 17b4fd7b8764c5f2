-- By what the clauses come to.
use Rattle.std.proofs.Common.{ap, arith}
use Rattle.definitions.specs.Answer.{refused}
use Rattle.definitions.specs.Clauses.{width, most_rows}
use Rattle.answer.proofs.Laws.{outcome_of}
use Rattle.dimacs_rows.specs.Rows.{most_stored}
use Rattle.dimacs.proofs.ReadCalls.{rows_unfit, rows_full}
use Rattle.dimacs.proofs.rows.read_rows.Goals as goal

pub write_rows-requires : goal.write_rows-requires
unfolding width most_stored most_rows
write_rows-requires c =
    let few = c.in-Ok.ensures.1.few in
    let long = c.requires.1.rows in
    let same = c.collect.auto.rows in
    omega arith

pub returns-in-Ok : goal.returns-in-Ok
returns-in-Ok c = c.write_rows.ensures _ (record { fits = c.in-Ok.ensures.0; set = c.in-Ok.ensures.1 })

pub returns-in-Err-Unfit : goal.returns-in-Err-Unfit
returns-in-Err-Unfit c =
    outcome_of _ _ _ _ (ap refused c.into.ensures)
    (rows_unfit _ c.args.clauses.now (rw c.in-Err-Unfit.field-0-is at c.in-Err-Unfit.ensures))

pub returns-in-Err-Full : goal.returns-in-Err-Full
returns-in-Err-Full c =
    let full = rw c.in-Err-Full.field-0-is at c.in-Err-Full.ensures in
    outcome_of _ _ _ _ (ap refused c.into-in-Err-Full.ensures) (rows_full _ c.args.clauses.now full.0 full.1)
