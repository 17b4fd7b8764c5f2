-- What was coded is compared, unless it was refused.
use Rattle.std.proofs.Common.{◌∙◌, sym, ap}
use Rattle.definitions.specs.Coding.{to_atoms_call}
use Rattle.answer.proofs.Laws.{outcome_of}
use Rattle.agreement.proofs.SameLaws.{coding_refused, coding_found, list_compared}
use Rattle.agreement.proofs.OkLaws.{ok_answer, err_answer}
use Rattle.agreement.proofs.states.decodes_in.Goals as goal

pub returns-then-is_ok : goal.returns-then-is_ok
returns-then-is_ok c =
    c.eq.ensures
    ∙ list_compared _ _
    ∙ coding_found _ _ _ _ _ (ap (to_atoms_call _ _) c.requires)
    (outcome_of _ _ _ _ (sym (ok_answer _ (sym c.is_ok.ensures.value ∙ c.if-is_ok.true))) c.decode.ensures)

pub returns-else-is_ok : goal.returns-else-is_ok
returns-else-is_ok c =
    let no = err_answer _ (sym c.is_ok.ensures.value ∙ c.if-is_ok.false) in
    c.if-is_ok.false ∙ coding_refused _ _ _ _ _ (ap (to_atoms_call _ _) c.requires) _ (outcome_of _ _ _ _ (sym no.1) c.decode.ensures)
