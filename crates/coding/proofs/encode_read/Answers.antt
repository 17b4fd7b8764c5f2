-- Question 23 by what is found, then the values.
use Rattle.std.proofs.Common.{◌∙◌, sym, refl}
use Rattle.definitions.specs.Answer.{ask}
use Rattle.answer.proofs.Laws.{left_by, outcome_of, asked_no, asked_yes}
use Rattle.coding.specs.Found.{none_found}
use Rattle.coding.proofs.Laws.{codable_noted, values_noted}
use Rattle.coding.proofs.Calls.{from_23, from_done}
use Rattle.coding.proofs.encode_read.Goals as goal

pub find-requires : goal.find-requires
unfolding none_found
find-requires c = record { reads = c.requires.reads; source = c.requires.source; empty = refl }

pub returns-in_err-ask : goal.returns-in_err-ask
unfolding ask
returns-in_err-ask c =
    let two = asked_no _ _ _ _ c.in_err-ask.ensures in
    outcome_of _ _ _ _ (left_by _ _ c.from_residual.ensures.1) (from_23 _ _ _ _ (two ∙ sym (c.find.ensures.two two)) _ c.in_err-ask.ensures)

pub returns-in_err-ask-2 : goal.returns-in_err-ask-2
unfolding ask
returns-in_err-ask-2 c =
    let one = asked_yes _ _ _ _ c.in_ok-ask.ensures in
    outcome_of _ _ _ _ (left_by _ _ c.from_residual-in_err-ask-2.ensures.1)
    (from_23 _ _ _ _ (c.are_codable.ensures ∙ codable_noted c.find.ensures one) _ c.in_err-ask-2.ensures)

pub returns : goal.returns
unfolding ask
returns c =
    let one = asked_yes _ _ _ _ c.in_ok-ask.ensures in
    from_done _ _ _ _ (c.are_codable.ensures ∙ codable_noted c.find.ensures one) c.in_ok-ask-2.ensures _
    (c.write.ensures ∙ values_noted c.find.ensures one)
