-- `agreement::steps::step_both`: the two answers are compared.
use Rattle.agreement.proofs.SameLaws.{both_made}
use borrow.Author.Rules.{rules}
use Rattle.agreement.proofs.steps.step_both.Statement.{statement}
use Rattle.agreement.proofs.steps.step_both.Tie as tie

-- the second call, and the first
abbrev second : tie.After-verdicts → tie.After-step-second
second c = c.before.before.before

abbrev between : tie.After-step-second → tie.After-state-1
between c = c.before.before.before

abbrev first : tie.After-verdicts → tie.After-step-first
first c = (between (second c)).before

step-requires : tie.Need-step-first-requires
step-requires c κs = search rules

step-requires-2 : tie.Need-step-second-requires
step-requires-2 c κs = search rules

verdicts-requires : tie.Need-verdicts-requires
verdicts-requires c κs = search rules

same_length : tie.Need-shape_of-state
same_length c = search rules

same-length-2 : tie.Need-shape_of-values
same-length-2 c = search rules

returns : tie.Need-returns
returns c = both_made _ _ _ _ _ _ _ _ (first c).step-first.ensures (second c).step-second.ensures c.verdicts.ensures

pub step_both_spec : {M : Type 1} → statement M
step_both_spec =
    tie.close
    (tie.spec
    step-requires
    step-requires-2
    verdicts-requires
    same_length
    same-length-2
    returns)
