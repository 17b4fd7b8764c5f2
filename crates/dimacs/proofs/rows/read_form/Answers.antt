-- By the form of the text.
use Rattle.std.proofs.Common.{◌∙◌, subst}
use Rattle.answer.proofs.Laws.{left_none, outcome_of}
use Rattle.dimacs_form.specs.Form.{Formed}
use Rattle.dimacs.proofs.ReadCalls.{form_not, form_clauses, form_rows}
use Rattle.dimacs.proofs.rows.read_form.Goals as goal

pub returns-in_err-from : goal.returns-in_err-from
returns-in_err-from c =
    let none = c.in_err-from.ensures.ok_part in
    outcome_of _ _ _ _ (left_none _ _ _ _ c.from_residual.ensures.1 none c.in_err-from.ensures.value)
    (form_not _ _ _ (subst (Formed c.args.atoms c.args.text.now) none c.check_form.ensures))

pub read_from-requires : goal.read_from-requires
read_from-requires c =
    form_clauses _ _ c.args.clauses.now _ (subst (Formed c.args.atoms c.args.text.now) c.in_ok-from.ensures.ok_part c.check_form.ensures) c.requires

pub returns : goal.returns
returns c =
    c.read_from.ensures ∙ form_rows _ _ _ _ (subst (Formed c.args.atoms c.args.text.now) c.in_ok-from.ensures.ok_part c.check_form.ensures)
