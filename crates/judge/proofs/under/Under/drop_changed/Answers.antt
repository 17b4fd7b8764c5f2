-- `Under::drop_changed`: a row takes its flag away, or there is none, or it cannot fire.
use Rattle.std.proofs.Common.{sym, ap, ◌∙◌, arith}
use Rattle.definitions.specs.Literal.{complement}
use Rattle.literal.proofs.Mark.{zero_place}
use Rattle.task.specs.Rows.{rows_left}
use Rattle.judge.proofs.BlockRows.{left_start, left_next, effect_low, conditions_low}
use Rattle.judge.proofs.Guaranteed.{drop_start, drop_fires, drop_zero, drop_passed, drop_end}
use Rattle.judge.proofs.under.Under.drop_changed.Goals as goal

pub loop-effect-init : goal.loop-effect-init
loop-effect-init c =
    let rows = ap rows_left c.into_iter-effect-iterator.ensures.into_iter_gives ∙ c.of-effect-items.ensures in
    (left_start _ _ _ c.args.self.now.given.right rows, λ ls closed. drop_start _ _ ls _ _ _ rows)

pub complement-requires : goal.complement-requires
complement-requires c = omega (arith, effect_low _ _ _ _ _ c.in-Some.ensures.steps c.loop-effect.invariant.0, c.args.self.now.given.few)

pub loop-effect-preserved-then-is_zero : goal.loop-effect-preserved-then-is_zero
loop-effect-preserved-then-is_zero c =
    let i = c.loop-effect.invariant in
    let r = c.in-Some.ensures.steps in
    let zero = zero_place c.loop-effect.flags c.wide-l.result c.is_zero.result c.is_zero.ensures c.if-is_zero.true in (
      left_next _ _ _ _ _ r i.0,
      λ ls closed. i.1 ls closed ∙ drop_zero _ _ ls _ _ _ _ _ r _ (c.wide-l.ensures.0 ∙ c.complement.ensures ∙ ap complement c.wide.ensures.0) zero.0,
    )

pub can_fire-requires : goal.can_fire-requires
can_fire-requires c =
    let g = c.args.self.now.given in (
      record {
        few = g.few;
        room = omega (arith, c.requires.1);
        rows = g.rows;
        below = conditions_low _ _ _ _ _ c.in-Some.ensures.steps c.loop-effect.invariant.0;
      },
      c.requires.0,
    )

pub loop-effect-preserved-then-not-can_fire : goal.loop-effect-preserved-then-not-can_fire
loop-effect-preserved-then-not-can_fire c =
    let i = c.loop-effect.invariant in
    let r = c.in-Some.ensures.steps in (
      left_next _ _ _ _ _ r i.0,
      λ ls closed. i.1 ls closed ∙ drop_passed _ _ ls _ _ _ _ _ r (sym (c.can_fire.ensures ls closed) ∙ c.if-not-can_fire.true),
    )

pub loop-effect-preserved : goal.loop-effect-preserved
loop-effect-preserved c =
    let i = c.loop-effect.invariant in
    let r = c.in-Some.ensures.steps in (
      left_next _ _ _ _ _ r i.0,
      λ ls closed. i.1 ls closed
          ∙ drop_fires _ _ ls _ _ _ _ _ r _ _ (c.wide-l.ensures.0 ∙ c.complement.ensures ∙ ap complement c.wide.ensures.0) c.put.ensures
          (sym (c.can_fire.ensures ls closed) ∙ c.if-not-can_fire.false),
    )

pub returns : goal.returns
returns c = λ ls closed. sym (c.loop-effect.invariant.1 ls closed ∙ drop_end _ _ ls _ _ c.in-None.ensures.steps.0)
