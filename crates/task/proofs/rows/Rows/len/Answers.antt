use Rattle.std.proofs.Common.{sym}
use Rattle.task.proofs.BlockSizes.{rows_counted}
use Rattle.task.proofs.rows.Rows.len.Goals as goal

pub returns : goal.returns
returns c = sym (rows_counted _ _ _ c.args.self.now.parses)
