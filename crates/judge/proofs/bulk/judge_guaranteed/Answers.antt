-- `judge::bulk::judge_guaranteed`: where the closure of the precondition is contradictory no clause fails, else the rows tell. Assumes nothing.
use Rattle.std.proofs.Common.{◌∙◌}
use Rattle.definitions.proofs.ReadLaws.{pre_low}
use Rattle.judge.proofs.Closures.{closure_says, closure_start, contradictory_start}
use Rattle.judge.proofs.RowWalk.{fail_none, fail_rows}
use Rattle.judge.proofs.bulk.judge_guaranteed.Goals as goal

pub close-requires : goal.close-requires
close-requires c =
    let g = c.requires.0 in
    record { few = g.given.few; room = g.room; rows = g.given.rows; below = rw c.precondition-precondition.ensures (pre_low _ _ g.given.right) }

pub judge_consistent-requires : goal.judge_consistent-requires
judge_consistent-requires c =
    let closed = closure_start _ _ _ _ _ c.precondition-precondition.ensures (closure_says _ _ _ _ c.in-Consistent.ensures) in
    (closed, c.clear.auto.flags ∙ c.requires.0.flagged, c.requires.1)

pub returns-in-Contradictory : goal.returns-in-Contradictory
returns-in-Contradictory c =
    let pre = c.precondition-precondition.ensures in (
      fail_none _ _ _ c.args.judged.now _ c.args.fails.now _ c.requires.0.flagged c.clear.ensures pre c.in-Contradictory.ensures,
      contradictory_start _ _ _ _ pre c.in-Contradictory.ensures,
    )

pub returns-in-Consistent : goal.returns-in-Consistent
returns-in-Consistent c =
    let pre = c.precondition-precondition.ensures in
    let closed = closure_start _ _ _ _ _ pre (closure_says _ _ _ _ c.in-Consistent.ensures) in (
      fail_rows _ _ _ c.args.judged.now _ c.args.fails.now _ c.requires.0.flagged c.clear.ensures pre _ c.in-Consistent.ensures.0
          c.judge_consistent.ensures.0,
      (closed.consistent, c.judge_consistent.ensures.1),
    )
