-- `agreement::states::set_both`: the two answers are compared.
use Rattle.agreement.proofs.SameLaws.{both_made}
use borrow.Author.Rules.{rules}
use Rattle.agreement.proofs.states.set_both.Statement.{statement}
use Rattle.agreement.proofs.states.set_both.Tie as tie

-- the second call, and the first
abbrev second : tie.After-both_fine → tie.After-set_initial-second
second c = c.before.before.before

abbrev between : tie.After-set_initial-second → tie.After-state-1
between c = c.before.before.before

abbrev first : tie.After-both_fine → tie.After-set_initial-first
first c = (between (second c)).before

set-initial-requires : tie.Need-set_initial-first-requires
set-initial-requires c κs = search rules

set-initial-requires-2 : tie.Need-set_initial-second-requires
set-initial-requires-2 c κs = search rules

both-fine-requires : tie.Need-both_fine-requires
both-fine-requires c κs = search rules

same_length : tie.Need-shape_of-state
same_length c = search rules

same-length-2 : tie.Need-shape_of-values
same-length-2 c = search rules

returns : tie.Need-returns
returns c = both_made _ _ _ _ _ _ _ _ (first c).set_initial-first.ensures (second c).set_initial-second.ensures c.both_fine.ensures

pub set_both_spec : {M : Type 1} → statement M
set_both_spec =
    tie.close
    (tie.spec
    set-initial-requires
    set-initial-requires-2
    both-fine-requires
    same_length
    same-length-2
    returns)
