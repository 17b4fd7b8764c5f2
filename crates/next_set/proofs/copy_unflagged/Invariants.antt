use Rattle.std.proofs.Common.{length}
use Rattle.clause.proofs.RowWalks.{Numbered}
use Rattle.next_set.proofs.Copying.{Copying}
use Rattle.next_set.proofs.copy_unflagged.Given as goal

-- the rows passed that have no flag are copied and counted
abbrev pub invariant-loop-i : goal.invariant-loop-i
invariant-loop-i l = record {
  rows : Numbered l.clauses l.i-iterator (length l.yielded);
  copying : Copying l.clauses l.flags l.fn.work l.work l.to l.count (length l.yielded);
}
