use Rattle.task.proofs.rows.Rows.of.Goals as goal

pub invariant_of-result : goal.invariant_of-result
invariant_of-result c = record { parses = c.head-end.ensures.parses }

pub returns : goal.returns
returns c = c.head-end.ensures.rows
