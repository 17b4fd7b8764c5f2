-- Question 19, then the operator's block.
use Rattle.std.proofs.Common.{◌∙◌, ap, refl, arith}
use borrow.Author.Tests.{ltb-true}
use Rattle.definitions.specs.Answer.{ask, becomes}
use Rattle.definitions.specs.Fdr.{FdrOperator}
use Rattle.definitions.specs.FdrStep.{fdr_step}
use Rattle.answer.proofs.Laws.{left_by, outcome_of, handed_on, goes_on, asked_yes}
use Rattle.answer.proofs.ReaderCalls.{stays}
use Rattle.fdr_image.specs.Reads.{fdr_of}
use Rattle.fdr.specs.Change.{stepped, applied}
use Rattle.fdr.proofs.Calls.{applying}
use Rattle.fdr.proofs.step_noted.Goals as goal

pub returns-in_err-ask : goal.returns-in_err-ask
unfolding fdr_step
returns-in_err-ask c = (
  outcome_of _ _ _ _ (left_by _ _ c.from_residual.ensures.1)
      (stays _ _ _ (rw (← c.wide-i.ensures.0, ← c.operators.ensures.0) (handed_on _ _ _ c.in_err-ask.ensures))),
  refl,
)

pub operator_block-requires : goal.operator_block-requires
unfolding ask
operator_block-requires c =
    let below = ltb-true _ _ (asked_yes _ _ _ _ c.in_ok-ask.ensures) in
    (c.requires.0.reads, omega (arith, c.operators.ensures.0))

pub step_block-requires : goal.step_block-requires
step_block-requires c = applying _ _ _ _ _ c.requires.0 c.requires.1 c.operator_block.ensures

pub returns : goal.returns
unfolding fdr_step stepped applied
returns c =
    let t = fdr_of c.args.image.now in
    let s = c.args.state.now in (
      c.step_block.ensures.0
          ∙ ap (λ (o : FdrOperator). becomes s (stepped t s o)) c.operator_block.ensures.operator
          ∙ ap (becomes s) (rw (← c.wide-i.ensures.0, ← c.operators.ensures.0) (goes_on _ _ _ c.in_ok-ask.ensures)),
      c.step_block.ensures.1,
    )
