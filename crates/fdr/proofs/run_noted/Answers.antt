-- A step that is refused ends the run with the steps so far; after the last step the list has run.
use Rattle.std.proofs.Common.{◌∙◌, ap, refl, sym, rules, Result}
use Rattle.definitions.specs.Answer.{outcome}
use Rattle.answer.specs.Answer.{verdict_answer}
use Rattle.answer.specs.declared.Refusal.{Refusal}
use Rattle.answer.proofs.Laws.{left_by, outcome_of, mapped_ok}
use Rattle.answer.proofs.ReaderCalls.{running_start, running_on, running_left, running_all}
use Rattle.fdr.proofs.run_noted.Goals as goal

pub loop-steps-init : goal.loop-steps-init
loop-steps-init c = (running_start _ _ _, refl)

pub step_noted-requires : goal.step_noted-requires
step_noted-requires c =
    let run = c.loop-steps.invariant in
    (record { reads = c.requires.0.reads; size = run.0.size ∙ c.requires.0.size }, run.1 ∙ c.requires.1)

pub loop-steps-preserved : goal.loop-steps-preserved
loop-steps-preserved c =
    let fine = mapped_ok _ _ _ c.map_err.ensures.cases _ c.in_ok-map_err.was in (
      running_on _ _ _ _ _ c.loop-steps.invariant.0 _ _ c.loop-steps-test.true refl c.step_noted.auto.state
          (ap (λ (r : Result (Unit {0}) Refusal). outcome (verdict_answer r) c.step_noted.new.state) (sym fine) ∙ c.step_noted.ensures.0),
      c.step_noted.ensures.1 ∙ c.loop-steps.invariant.1,
    )

pub returns-in_err-map_err : goal.returns-in_err-map_err
returns-in_err-map_err c =
    outcome_of _ _ _ _ (left_by _ _ c.from_residual.ensures.1)
    (running_left _ _ _ _ _ c.loop-steps.invariant.0 _ _ c.loop-steps-test.true refl _ _ _ c.map_err.ensures.cases _ c.in_err-map_err.was
    (λ f q. search rules) c.step_noted.ensures.0)

pub returns : goal.returns
returns c = running_all _ _ _ _ _ c.loop-steps.invariant.0 c.loop-steps-test.false
