-- Question 17, the source and the target as question 18, then 23.
use Rattle.std.proofs.Common.{ℕ, ◌∙◌, ap}
use borrow.Author.Tests.{eqb-true}
use Rattle.definitions.specs.Answer.{ask}
use Rattle.definitions.specs.Literal.{is_state}
use Rattle.answer.proofs.Laws.{left_by, outcome_of, asked_yes}
use Rattle.fdr_image.proofs.Reading.{reads}
use Rattle.literal.proofs.State.{state_length}
use Rattle.coding.proofs.Calls.{encode_codes, codes_17, codes_source, codes_target, codes_rest}
use Rattle.coding.proofs.encode.Goals as goal

pub returns-in_err-read : goal.returns-in_err-read
returns-in_err-read c =
    outcome_of _ _ _ _ (left_by _ _ c.from_residual.ensures.1) (codes_17 _ _ _ _ _ _ (encode_codes _ _ _) _ c.in_err-read.ensures)

pub atoms-requires : goal.atoms-requires
atoms-requires c = reads _ c.in_ok-read.ensures

pub returns-in_err-ask : goal.returns-in_err-ask
returns-in_err-ask c =
    outcome_of _ _ _ _ (left_by _ _ c.from_residual-in_err-ask.ensures.1)
    (codes_source _ _ _ _ _ _ (encode_codes _ _ _) (reads _ c.in_ok-read.ensures) _
    (c.is_state.ensures ∙ ap (λ (k : ℕ). is_state k c.args.state.now) c.atoms.ensures.0) _ c.in_err-ask.ensures)

pub variables-requires : goal.variables-requires
variables-requires c = reads _ c.in_ok-read.ensures

pub returns-in_err-ask-2 : goal.returns-in_err-ask-2
returns-in_err-ask-2 c =
    outcome_of _ _ _ _ (left_by _ _ c.from_residual-in_err-ask-2.ensures.1)
    (codes_target _ _ _ _ _ _ (encode_codes _ _ _) (reads _ c.in_ok-read.ensures) _
    (c.is_state.ensures ∙ ap (λ (k : ℕ). is_state k c.args.state.now) c.atoms.ensures.0) c.in_ok-ask.ensures _ c.variables.ensures.0 _
    c.in_err-ask-2.ensures)

pub encode_read-requires : goal.encode_read-requires
unfolding ask
encode_read-requires c = record {
  reads = reads _ c.in_ok-read.ensures;
  source = state_length _ _ _ (c.is_state.ensures ∙ ap (λ (k : ℕ). is_state k c.args.state.now) c.atoms.ensures.0)
      (asked_yes _ _ _ _ c.in_ok-ask.ensures);
  target = eqb-true _ _ (asked_yes _ _ _ _ c.in_ok-ask-2.ensures) ∙ c.variables.ensures.0;
}

pub returns : goal.returns
returns c =
    c.encode_read.ensures
    ∙ codes_rest _ _ _ _ _ _ (encode_codes _ _ _) (reads _ c.in_ok-read.ensures) _
    (c.is_state.ensures ∙ ap (λ (k : ℕ). is_state k c.args.state.now) c.atoms.ensures.0) c.in_ok-ask.ensures _ c.variables.ensures.0
    c.in_ok-ask-2.ensures
