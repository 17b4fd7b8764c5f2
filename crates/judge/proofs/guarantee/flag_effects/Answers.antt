-- A row sets its flag, or it has the other sign, or its conditions are not marked.
use Rattle.std.proofs.Common.{refl, sym, ap, ◌∙◌}
use Rattle.task.specs.Rows.{rows_left}
use Rattle.judge.proofs.BlockRows.{left_start, left_next, conditions_low}
use Rattle.judge.proofs.Guaranteed.{effects_start, effects_other, effects_made, effects_passed, effects_end}
use Rattle.judge.proofs.guarantee.flag_effects.Goals as goal

pub loop-effect-init : goal.loop-effect-init
loop-effect-init c =
    let rows = ap rows_left c.into_iter-effect-iterator.ensures.into_iter_gives ∙ c.of-effect-items.ensures in
    (refl, λ atoms K right m. (left_start _ _ _ right rows, effects_start _ K _ _ _ rows))

pub loop-effect-preserved-then-not-has_sign : goal.loop-effect-preserved-then-not-has_sign
loop-effect-preserved-then-not-has_sign c =
    let i = c.loop-effect.invariant in
    let r = c.in-Some.ensures.steps in (
      i.0,
      λ atoms K right m.
          let j = i.1 atoms K right m in
          (left_next _ _ _ _ _ r j.0, j.1 ∙ effects_other _ K _ _ _ _ _ r (sym c.has_sign.ensures ∙ c.if-not-has_sign.true)),
    )

pub loop-effect-preserved-then-not-holds_all : goal.loop-effect-preserved-then-not-holds_all
loop-effect-preserved-then-not-holds_all c =
    let i = c.loop-effect.invariant in
    let r = c.in-Some.ensures.steps in (
      i.0,
      λ atoms K right m.
          let j = i.1 atoms K right m in (
            left_next _ _ _ _ _ r j.0,
            j.1
                ∙ effects_passed _ K _ _ _ _ _ r (sym c.has_sign.ensures ∙ c.if-not-has_sign.false)
                (sym (c.holds_all.ensures atoms K m (conditions_low _ _ _ _ _ r j.0)) ∙ c.if-not-holds_all.true),
          ),
    )

pub loop-effect-preserved : goal.loop-effect-preserved
loop-effect-preserved c =
    let i = c.loop-effect.invariant in
    let r = c.in-Some.ensures.steps in (
      c.put.auto.flags ∙ i.0,
      λ atoms K right m.
          let j = i.1 atoms K right m in (
            left_next _ _ _ _ _ r j.0,
            j.1
                ∙ effects_made _ K _ _ _ _ _ r _ (rw c.index.ensures at c.put.ensures) (sym c.has_sign.ensures ∙ c.if-not-has_sign.false)
                (sym (c.holds_all.ensures atoms K m (conditions_low _ _ _ _ _ r j.0)) ∙ c.if-not-holds_all.false),
          ),
    )

pub shape_of-flags : goal.shape_of-flags
shape_of-flags c = c.loop-effect.invariant.0

pub returns : goal.returns
returns c = λ atoms K right m. sym ((c.loop-effect.invariant.1 atoms K right m).1 ∙ effects_end _ K _ _ c.in-None.ensures.steps.0)
