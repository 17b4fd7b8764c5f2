-- By the cases of the two answers.
use Rattle.agreement.specs.Same.{same_answer, same_unit}
use Rattle.agreement.proofs.same.verdicts.Goals as goal

pub returns-in-Ok-Ok : goal.returns-in-Ok-Ok
unfolding same_answer same_unit
returns-in-Ok-Ok c = rw (c.in-Ok-Ok.is-0, c.in-Ok-Ok.is-1)

pub returns-in-Err-Err : goal.returns-in-Err-Err
unfolding same_answer
returns-in-Err-Err c = rw (c.in-Err-Err.is-0, c.in-Err-Err.is-1) c.refusals.ensures

pub returns-in_default : goal.returns-in_default
unfolding same_answer
returns-in_default c = rw (c.in_default.is-0, c.in_default.is-1)

pub returns-in_default-2 : goal.returns-in_default-2
unfolding same_answer
returns-in_default-2 c = rw (c.in_default.is-0, c.in_default.is-1)
