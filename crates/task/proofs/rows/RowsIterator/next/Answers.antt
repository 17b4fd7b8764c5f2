use Rattle.task.proofs.Blocks.{rows_none}
use Rattle.task.proofs.rows.RowsIterator.next.Goals as goal

pub returns-then-self-eq0-clause-steps : goal.returns-then-self-eq0-clause-steps
returns-then-self-eq0-clause-steps c = (rows_none _ _ _ c.if-self-eq0.true, rows_none _ _ _ c.if-self-eq0.true)
