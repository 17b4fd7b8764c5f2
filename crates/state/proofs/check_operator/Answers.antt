-- Question 19, then 20 of the operator's block.
use Rattle.std.proofs.Common.{◌∙◌, ap, arith}
use Rattle.definitions.specs.Answer.{refused}
use Rattle.definitions.specs.Literal.{all_true}
use Rattle.definitions.specs.Image.{Operator}
use Rattle.state.proofs.Asked.{no_19, asked_20}
use Rattle.state.proofs.check_operator.Goals as goal

pub returns-then-operators-operator : goal.returns-then-operators-operator
returns-then-operators-operator c = ap refused c.into.ensures ∙ no_19 _ _ _ (omega (arith, c.operators.ensures.0))

pub returns : goal.returns
returns c =
    let tested = c.precondition_holds.ensures ∙ ap (λ (o : Operator). all_true c.args.state.now o.precondition) c.operator_block-block.ensures.operator in
    c.ask.ensures ∙ asked_20 _ _ _ (omega (arith, c.operators.ensures.0)) _ tested
