-- `judge::guarantee::flag_guaranteed`: no clause is judged.
use Rattle.std.proofs.Common.{arith}
use Rattle.clause.specs.Rows.{row_count}
use Rattle.judge.proofs.guarantee.flag_guaranteed.Goals as goal

pub invariant_of-under : goal.invariant_of-under
unfolding row_count
invariant_of-under c = record { given = c.requires.0; right = record { right = λ i h. absurd (omega (arith, h)) } }
