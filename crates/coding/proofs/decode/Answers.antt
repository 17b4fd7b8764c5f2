-- Question 17, then the source and the target as question 18.
use Rattle.std.proofs.Common.{◌∙◌, ap, sym}
use borrow.Author.Tests.{eqb-true}
use Rattle.definitions.specs.Answer.{ask, finding}
use Rattle.definitions.specs.FdrStep.{is_fdr_state}
use Rattle.answer.proofs.Laws.{left_by, outcome_of, asked_yes}
use Rattle.answer.proofs.ReaderCalls.{done}
use Rattle.fdr_image.proofs.Reading.{reads}
use Rattle.fdr_image.proofs.DomainLaws.{values_length}
use Rattle.coding.proofs.Calls.{decode_codes, codes_17, codes_source, codes_target, codes_rest}
use Rattle.coding.proofs.decode.Goals as goal

pub returns-in_err-read : goal.returns-in_err-read
returns-in_err-read c =
    outcome_of _ _ _ _ (left_by _ _ c.from_residual.ensures.1) (codes_17 _ _ _ _ _ _ (decode_codes _ _ _) _ c.in_err-read.ensures)

pub is_state-requires : goal.is_state-requires
is_state-requires c = reads _ c.in_ok-read.ensures

pub returns-in_err-ask : goal.returns-in_err-ask
returns-in_err-ask c =
    outcome_of _ _ _ _ (left_by _ _ c.from_residual-in_err-ask.ensures.1)
    (codes_source _ _ _ _ _ _ (decode_codes _ _ _) (reads _ c.in_ok-read.ensures) _ c.is_state.ensures _ c.in_err-ask.ensures)

pub atoms-requires : goal.atoms-requires
atoms-requires c = reads _ c.in_ok-read.ensures

pub returns-in_err-ask-2 : goal.returns-in_err-ask-2
returns-in_err-ask-2 c =
    outcome_of _ _ _ _ (left_by _ _ c.from_residual-in_err-ask-2.ensures.1)
    (codes_target _ _ _ _ _ _ (decode_codes _ _ _) (reads _ c.in_ok-read.ensures) _ c.is_state.ensures c.in_ok-ask.ensures _ c.atoms.ensures.0 _
    c.in_err-ask-2.ensures)

pub write-requires : goal.write-requires
unfolding ask is_fdr_state
write-requires c = record {
  reads = reads _ c.in_ok-read.ensures;
  source = values_length _ _ (sym c.is_state.ensures ∙ asked_yes _ _ _ _ c.in_ok-ask.ensures);
  target = eqb-true _ _ (asked_yes _ _ _ _ c.in_ok-ask-2.ensures) ∙ c.atoms.ensures.0;
}

pub returns : goal.returns
returns c =
    done _ _ _ (ap finding c.write.ensures)
    ∙ codes_rest _ _ _ _ _ _ (decode_codes _ _ _) (reads _ c.in_ok-read.ensures) _ c.is_state.ensures c.in_ok-ask.ensures _ c.atoms.ensures.0
    c.in_ok-ask-2.ensures
