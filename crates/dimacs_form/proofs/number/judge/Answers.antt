-- `dimacs_form::number::judge`: by the first byte.
use Rattle.std.proofs.Common.{Option, sym, ◌∙◌, subst}
use Rattle.dimacs_form.specs.declared.number.Number.{Number}
use Rattle.dimacs_form.specs.Numbers.{Judged}
use Rattle.dimacs_form.proofs.NumberLaws.{minus_judged, plain_judged, zero_judged}
use Rattle.dimacs_form.proofs.number.judge.Goals as goal

pub returns-then-word-eq45 : goal.returns-then-word-eq45
returns-then-word-eq45 c =
    let s = c.args in
    subst (λ (r : Option Number). Judged s.word.now s.next r) (sym c.signed.ensures)
    (minus_judged s.word.now s.next _ c.requires c.if-word-eq45.true c.read_digits.ensures)

pub returns-then-is_zero : goal.returns-then-is_zero
returns-then-is_zero c =
    let s = c.args in
    subst (λ (r : Option Number). Judged s.word.now s.next r) (sym c.signed-then-is_zero.ensures)
    (zero_judged s.word.now s.next (sym c.is_zero.ensures ∙ c.if-is_zero.true))

pub returns : goal.returns
returns c =
    let s = c.args in
    subst (λ (r : Option Number). Judged s.word.now s.next r) (sym c.signed-2.ensures)
    (plain_judged s.word.now s.next _ c.requires c.if-word-eq45.false (sym c.is_zero.ensures ∙ c.if-is_zero.false) c.read_digits-2.ensures)
