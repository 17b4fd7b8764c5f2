-- `propagation::seed`: one literal more, or the stop at it.
use Rattle.propagation.proofs.Seeds.{grown_if, seed_asks, seed_inside, seed_met, seed_on, seed_end}
use Rattle.propagation.proofs.seed.Goals as goal
use Rattle.propagation.proofs.seed.Goals.{then-add, else-add}

pub stops_at-requires : goal.stops_at-requires
stops_at-requires c = seed_asks _ _ _ _ _ _ c.requires.0 c.requires.1 c.loop-l.invariant.0 c.loop-l-test.true

pub returns-then-stops_at : goal.returns-then-stops_at
returns-then-stops_at c =
    let l = c.loop-l in
    (l.invariant.0, seed_met _ _ _ _ _ _ c.requires.0 c.requires.1 l.invariant.0 c.loop-l-test.true _ l.invariant.1 _ c.stops_at.ensures c.if-stops_at.true)

pub add-requires : goal.add-requires
add-requires c = seed_inside _ _ _ _ _ _ c.requires.0 c.requires.1 c.loop-l.invariant.0 c.loop-l-test.true _ c.wide.ensures.0

pub loop-l-preserved : goal.loop-l-preserved
unfolding grown_if
loop-l-preserved c =
    let l = c.loop-l in
    let r =
    seed_on _ _ _ _ _ _ c.requires.0 c.requires.1 l.invariant.0 c.loop-l-test.true l.pass l.invariant.1 _ c.stops_at.ensures c.if-stops_at.false _ _ _
    c.wide.ensures.0 c.add.ensures in
    elim c.if-add.branch [ then-add w ↦ rw w.pass-is (rw w.if-add.true at r) | else-add w ↦ rw w.pass-is (rw w.if-add.false at r) ]

pub returns : goal.returns
returns c = (c.loop-l.invariant.0, seed_end _ _ _ _ _ _ c.loop-l.invariant.1 c.loop-l-test.false)
