-- `text::fill_digits`: the laws of one digit, and of the last.
use mathlib.Core.Path.{sym, ◌∙◌}
use Prim.Native.Nat.{◌-◌}
use native.Mathlib.Omega.{arith}
use Rattle.text.proofs.Digits.{digits_start, digits_last, digits_next, digits_end}
use Rattle.text.proofs.fill_digits.Goals as goal

pub loop-i-init : goal.loop-i-init
loop-i-init c = digits_start c.args.room.now _ c.requires

pub returns-then-left-eq0 : goal.returns-then-left-eq0
returns-then-left-eq0 c =
    let l = c.loop-i in (
      sym
          (l.invariant
          ∙ digits_last l.room l.i (l.i - 1) l.left c.digit.result (omega arith) (omega arith) (omega arith) c.digit.ensures c.if-left-eq0.true),
      omega arith,
    )

pub loop-i-preserved : goal.loop-i-preserved
loop-i-preserved c =
    let l = c.loop-i in
    l.invariant
    ∙ digits_next l.room l.i (l.i - 1) l.left c.digit.result (omega arith) (omega arith) (omega arith) c.digit.ensures c.if-left-eq0.false

pub returns : goal.returns
returns c = let l = c.loop-i in (sym (l.invariant ∙ digits_end l.room l.left l.i (omega arith)), omega arith)
