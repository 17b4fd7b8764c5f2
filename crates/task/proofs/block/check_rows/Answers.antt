-- The rows that are left decide.
use Rattle.std.proofs.Common.{◌-◌, ◌+◌, ◌∙◌, sym, ap, refl, arith}
use Rattle.definitions.specs.Answer.{refused}
use Rattle.task.proofs.Blocks.{verdict_short, verdict_over, verdict_next, verdict_left, verdict_asked_last}
use Rattle.task.proofs.block.check_rows.Goals as goal

pub returns-then-block-at-lt2 : goal.returns-then-block-at-lt2
returns-then-block-at-lt2 c =
    let k = c.args.rows - c.loop.counter in
    ap refused c.at.ensures
    ∙ verdict_short _ _ c.loop.right c.args.block.now c.loop.at k (k - 1) (omega arith) c.if-block-at-lt2.true
    ∙ sym c.loop.invariant.rest

pub returns-then-block-start : goal.returns-then-block-start
returns-then-block-start c =
    let k = c.args.rows - c.loop.counter in
    ap refused c.at-then-block-start.ensures
    ∙ verdict_over _ _ c.loop.right c.args.block.now c.loop.at k (k - 1) (omega arith)
    _ c.wide-count.ensures.0 (omega arith) c.if-block-start.true
    ∙ sym c.loop.invariant.rest

pub loop-preserved : goal.loop-preserved
loop-preserved c = record {
  inside = omega arith;
  rest =
      c.loop.invariant.rest
      ∙ verdict_next _ _ c.args.block.now c.loop.at (c.args.rows - c.loop.counter) (c.args.rows - (c.loop.counter + 1)) c.loop.right _ _ _ _
      c.wide-effect.ensures.0 c.wide-count.ensures.0 (omega arith) (omega arith) (omega arith) c.is_row-right.ensures refl;
}

pub returns-then-at-block : goal.returns-then-at-block
returns-then-at-block c =
    ap refused c.at-then-at-block.ensures
    ∙ verdict_left _ _ c.loop.right c.args.block.now c.loop.at (c.args.rows - c.loop.counter) (omega arith) c.if-at-block.true
    ∙ sym c.loop.invariant.rest

pub returns : goal.returns
returns c =
    c.ask_at.ensures
    ∙ verdict_asked_last _ _ c.loop.right c.args.block.now c.loop.at (c.args.rows - c.loop.counter) (omega arith) c.if-at-block.false
    ∙ sym c.loop.invariant.rest
