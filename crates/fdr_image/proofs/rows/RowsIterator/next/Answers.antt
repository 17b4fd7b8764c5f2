use Rattle.fdr_image.proofs.RowLaws.{rows_done}
use Rattle.fdr_image.proofs.rows.RowsIterator.next.Goals as goal

pub returns-then-self-eq0-clause-steps : goal.returns-then-self-eq0-clause-steps
returns-then-self-eq0-clause-steps c = (rows_done _ _ _ c.if-self-eq0.true, rows_done _ _ _ c.if-self-eq0.true)
