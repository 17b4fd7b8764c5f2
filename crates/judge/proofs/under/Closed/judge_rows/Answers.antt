-- `Closed::judge_rows`: a row is judged, or no judged clause holds the complement of its effect.
use Rattle.std.proofs.Common.{sym, ap, ◌∙◌, arith}
use Rattle.definitions.specs.Literal.{complement}
use Rattle.task.specs.Rows.{rows_left}
use Rattle.judge.proofs.BlockRows.{left_start, left_next, row_among, effect_low, conditions_low}
use Rattle.judge.proofs.RowWalk.{walk_start, walk_on, walk_passed, walk_end}
use Rattle.judge.proofs.under.Closed.judge_rows.Goals as goal

pub loop-effect-init : goal.loop-effect-init
loop-effect-init c =
    let rows = ap rows_left c.into_iter-effect-iterator.ensures.into_iter_gives ∙ c.of-effect-items.ensures in
    (left_start _ _ _ c.args.self.now.under.now.given.right rows, walk_start _ _ _ _ _ _ _ rows)

pub complement-l-requires : goal.complement-l-requires
complement-l-requires c = omega (arith, effect_low _ _ _ _ _ c.in-Some.ensures.steps c.loop-effect.invariant.0, c.args.self.now.under.now.given.few)

pub loop-effect-preserved-then-not-some_holds : goal.loop-effect-preserved-then-not-some_holds
loop-effect-preserved-then-not-some_holds c =
    let i = c.loop-effect.invariant in
    let r = c.in-Some.ensures.steps in
    let is = c.complement-l.ensures ∙ ap complement c.wide.ensures.0 in (
      left_next _ _ _ _ _ r i.0,
      i.1 ∙ walk_passed _ _ _ _ _ _ _ _ _ r _ is (sym c.some_holds.ensures ∙ c.if-not-some_holds.true),
    )

pub judge_row-requires : goal.judge_row-requires
judge_row-requires c =
    let g = c.args.self.now.under.now.given in (
      record {
        few = g.few;
        room = omega (arith, c.requires.0);
        rows = g.rows;
        below = conditions_low _ _ _ _ _ c.in-Some.ensures.steps c.loop-effect.invariant.0;
      },
      omega (arith, c.requires.1),
    )

pub loop-effect-preserved : goal.loop-effect-preserved
loop-effect-preserved c =
    let i = c.loop-effect.invariant in
    let r = c.in-Some.ensures.steps in
    let is = c.complement-l.ensures ∙ ap complement c.wide.ensures.0 in (
      left_next _ _ _ _ _ r i.0,
      i.1 ∙ walk_on _ _ _ _ _ _ _ _ _ r _ (c.judge_row.ensures _ is (row_among _ _ _ _ _ r i.0)),
    )

pub returns : goal.returns
returns c = sym (c.loop-effect.invariant.1 ∙ walk_end _ _ _ _ _ _ c.in-None.ensures.steps.0)
