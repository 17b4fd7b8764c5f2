-- The flags of the rows that were passed are done, the others are still to be given.
use Rattle.std.proofs.Common.{◌≡◌, ◌++◌, take, drop}
use Rattle.clause.specs.Rows.{clauses_of}
use Rattle.clause.proofs.RowWalks.{Walked}
use Rattle.judge.specs.Judging.{lacks_flag, flag_more}
use Rattle.judge.proofs.bulk.flag_lacking.Given as goal

abbrev pub invariant-loop-number : goal.invariant-loop-number
invariant-loop-number l = record {
  walked : Walked l.judged l.number-iterator.iter l.number-iterator.count;
  rest :
      flag_more (lacks_flag l.l l.flags) (clauses_of l.judged) l.fn.fails
      ≡ take l.number-iterator.count l.fails
      ++ flag_more (lacks_flag l.l l.flags) (drop l.number-iterator.count (clauses_of l.judged)) (drop l.number-iterator.count l.fails);
}
