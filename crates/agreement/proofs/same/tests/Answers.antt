-- By the cases of the two answers.
use Rattle.agreement.specs.Same.{both_found}
use Rattle.agreement.proofs.OkLaws.{same_beq}
use Rattle.agreement.proofs.same.tests.Goals as goal

pub returns-in-Ok-Ok : goal.returns-in-Ok-Ok
unfolding both_found
returns-in-Ok-Ok c = rw (c.in-Ok-Ok.is-0, c.in-Ok-Ok.is-1) (same_beq _ _)

pub returns-in_default : goal.returns-in_default
unfolding both_found
returns-in_default c = rw (c.in_default.is-0, c.in_default.is-1)

pub returns-in_default-2 : goal.returns-in_default-2
unfolding both_found
returns-in_default-2 c = rw c.in_default.is-0
