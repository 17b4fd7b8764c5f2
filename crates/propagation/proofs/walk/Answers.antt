-- `propagation::walk`: a law for each way of the code at a row.
use Rattle.definitions.specs.Literal.{fill}
use Rattle.definitions.specs.Clauses.{width}
use Rattle.propagation.proofs.Rows.{going_start, going_end, row_start, second_asks, second_next, word_asks, word_same, word_first, word_second}
use Rattle.propagation.proofs.Rows.{row_asks, row_same, row_more, row_met}
use Rattle.propagation.proofs.walk.Goals as goal
use Rattle.propagation.proofs.walk.Goals.{in-Same, in-First}

pub walk-init : goal.walk-init
unfolding fill width
walk-init c = going_start _ _ _ _ _ _ c.requires (cc) (cc)

pub second_is_open-requires : goal.second_is_open-requires
second_is_open-requires c =
    let s = c.in-Some.ensures.steps in
    second_asks c.requires c.walk.invariant _ _ s.1.0 s.1.1

pub walk-preserved-then-second_is_open : goal.walk-preserved-then-second_is_open
walk-preserved-then-second_is_open c =
    let s = c.in-Some.ensures.steps in
    second_next c.requires c.walk.invariant _ _ s.1.0 s.1.1 _ _ c.second_is_open.ensures c.if-second_is_open.true s.0

pub loop-word-init : goal.loop-word-init
unfolding fill
loop-word-init c =
    let s = c.in-Some.ensures.steps in
    row_start c.requires c.walk.invariant _ _ s.1.0 s.1.1

pub scan_word-requires : goal.scan_word-requires
scan_word-requires c =
    let s = c.in-Some.ensures.steps in
    word_asks c.requires c.walk.invariant _ _ s.1.0 s.1.1 c.loop-word.invariant c.loop-word-test.true

pub walk-preserved-in-Second : goal.walk-preserved-in-Second
walk-preserved-in-Second c =
    let s = c.in-Some.ensures.steps in
    word_second c.requires c.walk.invariant _ _ s.1.0 s.1.1 c.loop-word.invariant c.loop-word-test.true
    _ _ c.scan_word.ensures c.in-Second.is s.0

pub loop-word-preserved : goal.loop-word-preserved
loop-word-preserved c =
    let s = c.in-Some.ensures.steps in
    elim c.match-scan_word.branch [
      | in-Same w ↦
          rw w.first-is
          (word_same c.requires c.walk.invariant _ _ s.1.0 s.1.1 c.loop-word.invariant c.loop-word-test.true
          _ c.scan_word.ensures w.in-Same.is)
      | in-First w ↦
          rw w.first-is
          (word_first c.requires c.walk.invariant _ _ s.1.0 s.1.1 c.loop-word.invariant c.loop-word-test.true
          _ c.scan_word.ensures w.in-First.is)
    ]

pub force-requires : goal.force-requires
force-requires c =
    let s = c.in-Some.ensures.steps in
    row_asks c.requires c.walk.invariant _ _ s.1.0 s.1.1 c.loop-word.invariant c.loop-word-test.false

pub walk-preserved-in-Same-force : goal.walk-preserved-in-Same-force
walk-preserved-in-Same-force c =
    let s = c.in-Some.ensures.steps in
    row_same c.requires c.walk.invariant _ _ s.1.0 s.1.1 c.loop-word.invariant c.loop-word-test.false
    _ _ c.force.ensures.0 c.force.ensures.1 c.in-Same-force.is _ s.0

pub walk-preserved : goal.walk-preserved
walk-preserved c =
    let s = c.in-Some.ensures.steps in
    row_more c.requires c.walk.invariant _ _ s.1.0 s.1.1 c.loop-word.invariant c.loop-word-test.false
    _ _ c.force.ensures.0 c.force.ensures.1 c.in-Grown.is _ s.0

pub returns-in-Contradictory : goal.returns-in-Contradictory
returns-in-Contradictory c =
    let s = c.in-Some.ensures.steps in
    row_met c.requires c.walk.invariant _ _ s.1.0 s.1.1 c.loop-word.invariant c.loop-word-test.false
    _ _ c.force.ensures.0 c.force.ensures.1 c.in-Contradictory.is

pub returns-in-None : goal.returns-in-None
returns-in-None c = going_end c.requires c.walk.invariant c.in-None.ensures.steps.1.0
