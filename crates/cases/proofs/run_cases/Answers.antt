use Rattle.std.proofs.Common.{arith}
use Rattle.cases.proofs.Laws.{values_low}
use Rattle.cases.proofs.run_cases.Goals as goal

pub loop-at-smaller : goal.loop-at-smaller
loop-at-smaller g c =
    let inside = c.loop-at-test.true in
    let end = c.end-at.ensures in
    let low = values_low c.args.words.now c.loop-at.at 4 in
    omega arith
