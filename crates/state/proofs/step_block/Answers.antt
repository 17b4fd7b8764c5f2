-- Question 20, and then the operator is applied.
use Rattle.std.proofs.Common.{◌∙◌, sym, refl}
use Rattle.definitions.specs.Answer.{ask}
use Rattle.answer.proofs.Laws.{left_by, outcome_of, asked_no, asked_yes, asked_refusal}
use Rattle.state.proofs.Calls.{applied-20, applied_done}
use Rattle.state.proofs.step_block.Goals as goal

pub returns-in_err-ask : goal.returns-in_err-ask
unfolding ask
returns-in_err-ask c =
    let no = asked_no _ _ _ _ c.in_err-ask.ensures in (
      outcome_of _ _ _ _ (left_by _ _ c.from_residual.ensures.1 ∙ c.in_err-ask.ensures ∙ asked_refusal _ _ _ no)
          (applied-20 _ _ (sym c.precondition_holds-holds.ensures ∙ no)),
      refl,
    )

pub returns : goal.returns
unfolding ask
returns c = (
  applied_done _ _ (sym c.precondition_holds-holds.ensures ∙ asked_yes _ _ _ _ c.in_ok-ask.ensures) _ c.apply.ensures.0,
  c.apply.ensures.1,
)
