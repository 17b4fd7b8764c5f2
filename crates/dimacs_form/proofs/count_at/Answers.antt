-- `dimacs_form::count_at`: by the word at the place.
use Rattle.std.proofs.Common.{Option, sym, subst}
use Rattle.dimacs_form.specs.declared.Count.{Count}
use Rattle.dimacs_form.specs.Form.{Counts}
use Rattle.dimacs_form.proofs.FormLaws.{none_counts, other_counts, number_counts}
use Rattle.dimacs_form.proofs.count_at.Goals as goal

pub returns-then-text-at : goal.returns-then-text-at
returns-then-text-at c = none_counts _ _ c.if-text-at.true

pub returns-in_err-number : goal.returns-in_err-number
returns-in_err-number c = rw c.from_residual.ensures (other_counts c.args.text.now c.args.at c.in_err-number.ensures)

pub returns : goal.returns
returns c =
    let s = c.args in
    subst (λ (r : Option Count). Counts s.text.now s.at r) (sym c.plain.ensures) (number_counts s.text.now s.at c.in_ok-number.number c.in_ok-number.ensures)
