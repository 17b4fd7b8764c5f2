-- Question 19, then the operator's block.
use Rattle.std.proofs.Common.{◌∙◌, ap, refl, arith, ◌<◌, length}
use Rattle.definitions.specs.Answer.{refused, becomes}
use Rattle.definitions.specs.Image.{Operator}
use Rattle.answer.proofs.Laws.{outcome_of}
use Rattle.task.specs.Reads.{task_of}
use Rattle.state.specs.Post.{applied}
use Rattle.state.proofs.Calls.{step_19, step_there}
use Rattle.state.proofs.step_flagged.Goals as goal

pub returns-then-operators-operator : goal.returns-then-operators-operator
returns-then-operators-operator c =
    (outcome_of _ _ _ _ (ap refused c.into.ensures) (step_19 _ _ _ (omega (arith, c.operators.ensures.0))), refl)

pub returns : goal.returns
returns c =
    let t = c.args.state.now in
    let there : c.args.operator < length (task_of c.args.image.now).operators = omega (arith, c.operators.ensures.0) in (
      c.step_block.ensures.0
          ∙ ap (λ (o : Operator). becomes t (applied t o)) c.operator_block.ensures.operator
          ∙ step_there (task_of c.args.image.now) t c.args.operator there,
      c.step_block.ensures.1,
    )
