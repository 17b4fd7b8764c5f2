-- `reencoding::initial::lower_all`: each true atom has a place, whose variable is among the values.
use Rattle.std.proofs.Common.{arith, sym, ◌∙◌}
use Rattle.reencoding.proofs.InitialLaws.{lowered_next, lowered_end, true_given}
use Rattle.reencoding.proofs.initial.lower_all.Goals as goal

pub bounds-places-a : goal.bounds-places-a
bounds-places-a c = omega (arith, true_given _ _ c.loop-x.x-index _ c.loop-x-test.true c.wide-a.ensures.0 c.requires)

pub bounds-places-a-in-loop-x : goal.bounds-places-a-in-loop-x
bounds-places-a-in-loop-x c = (true_given _ _ c.loop-x.x-index _ c.loop-x-test.true c.wide-a.ensures.0 c.requires).0

pub lower-requires : goal.lower-requires
lower-requires c = omega (arith, true_given _ _ c.loop-x.x-index _ c.loop-x-test.true c.wide-a.ensures.0 c.requires)

pub loop-x-preserved : goal.loop-x-preserved
loop-x-preserved c =
    c.loop-x.invariant ∙ lowered_next _ _ c.loop-x.x-index _ c.loop-x-test.true c.wide-a.ensures.0 _ _ _ c.wide.ensures.0 c.lower.ensures

pub returns : goal.returns
returns c = sym (c.loop-x.invariant ∙ lowered_end _ _ _ _ c.loop-x-test.false)
