-- A round ends the rounds, or its next set is copied into the clause buffer.
use Rattle.std.proofs.Common.{◌∙◌}
use Rattle.synthesis.proofs.Rounds.{standing_start, standing_next, standing_end}
use Rattle.synthesis.proofs.run.Goals as goal

pub loop-end-init : goal.loop-end-init
loop-end-init c = standing_start _ _ _ _ _ _ _ _ c.requires

pub returns-in-Ended : goal.returns-in-Ended
returns-in-Ended c =
    c.finish.ensures
    ∙ standing_end _ _ _ _ _ _ _ _ _ c.loop-end.invariant c.args.clauses.now c.loop-end.auto.clauses c.round.new.work c.in-Ended.end c.in-Ended.ensures

pub loop-end-preserved : goal.loop-end-preserved
loop-end-preserved c =
    standing_next _ _ _ _ _ _ _ _ _ c.loop-end.invariant c.in-Next.next c.round.new.work c.take_rows.new.clauses c.in-Next.ensures
    c.take_rows.ensures c.take_rows.auto.clauses
