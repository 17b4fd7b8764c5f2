-- `dimacs_form::number::read_digits`: digit by digit (`Reading`).
use Rattle.std.proofs.Common.{sym, ◌∙◌}
use Rattle.dimacs_form.proofs.NumberLaws.{not_begun, reading_start, reading_stops, reading_next, reading_over}
use Rattle.dimacs_form.proofs.number.read_digits.Goals as goal

pub returns-then-not-begins : goal.returns-then-not-begins
returns-then-not-begins c = not_begun _ (sym c.begins.ensures ∙ c.if-not-begins.true)

pub loop-b-init : goal.loop-b-init
loop-b-init c = reading_start _ (sym c.begins.ensures ∙ c.if-not-begins.false)

pub returns-then-not-is_digit : goal.returns-then-not-is_digit
returns-then-not-is_digit c = reading_stops _ _ _ c.loop-b.invariant c.loop-b-test.true (sym c.is_digit.ensures ∙ c.if-not-is_digit.true)

pub loop-b-preserved : goal.loop-b-preserved
loop-b-preserved c =
    reading_next _ _ _ c.loop-b.invariant _ c.loop-b-test.true (sym c.is_digit.ensures ∙ c.if-not-is_digit.false) c.with_digit-size.ensures

pub returns : goal.returns
returns c = reading_over _ _ _ c.loop-b.invariant c.loop-b-test.false
