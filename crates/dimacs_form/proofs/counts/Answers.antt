-- `dimacs_form::counts`: N, then the number of clauses, then these.
use Rattle.std.proofs.Common.{Option, ℕ, sym, subst}
use Rattle.dimacs_form.specs.Form.{Says}
use Rattle.dimacs_form.proofs.FormLaws.{says_missing, says_another, says_none, says_judged}
use Rattle.dimacs_form.proofs.counts.Goals as goal

pub returns-in_err-variables : goal.returns-in_err-variables
returns-in_err-variables c = rw c.from_residual.ensures (says_missing c.args.atoms c.args.text.now c.args.at c.in_err-variables.ensures)

pub returns-then-variables-atoms : goal.returns-then-variables-atoms
returns-then-variables-atoms c =
    let s = c.args in
    says_another s.atoms s.text.now s.at _ _ c.in_ok-variables.ensures c.requires.2 c.if-variables-atoms.true

pub returns-in_err-clauses : goal.returns-in_err-clauses
returns-in_err-clauses c =
    let s = c.args in
    rw c.from_residual-in_err-clauses.ensures
    (says_none s.atoms s.text.now s.at _ _ c.in_ok-variables.ensures c.requires.2 c.if-variables-atoms.false c.in_err-clauses.ensures)

pub returns : goal.returns
returns c =
    let s = c.args in
    subst (λ (r : Option ℕ). Says s.atoms s.text.now s.at r) (sym c.then_some.ensures)
    (says_judged s.atoms s.text.now s.at _ _ c.in_ok-variables.ensures _ _ c.in_ok-clauses.ensures c.requires.2 c.if-variables-atoms.false
    c.are_clauses.result c.are_clauses.ensures)
