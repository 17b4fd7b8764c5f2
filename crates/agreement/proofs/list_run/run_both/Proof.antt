-- `agreement::list_run::run_both`: the two answers are compared.
use Rattle.agreement.proofs.SameLaws.{both_made}
use borrow.Author.Rules.{rules}
use Rattle.agreement.proofs.list_run.run_both.Statement.{statement}
use Rattle.agreement.proofs.list_run.run_both.Tie as tie

-- the second call, and the first
abbrev second : tie.After-counts → tie.After-run-second
second c = c.before.before.before

abbrev between : tie.After-run-second → tie.After-state-1
between c = c.before.before.before

abbrev first : tie.After-counts → tie.After-run-first
first c = (between (second c)).before

run-requires : tie.Need-run-first-requires
run-requires c κs = search rules

run-requires-2 : tie.Need-run-second-requires
run-requires-2 c κs = search rules

counts-requires : tie.Need-counts-requires
counts-requires c κs = search rules

same_length : tie.Need-shape_of-state
same_length c = search rules

same-length-2 : tie.Need-shape_of-values
same-length-2 c = search rules

returns : tie.Need-returns
returns c = both_made _ _ _ _ _ _ _ _ (first c).run-first.ensures (second c).run-second.ensures c.counts.ensures

pub run_both_spec : {M : Type 1} → statement M
run_both_spec =
    tie.close
    (tie.spec
    run-requires
    run-requires-2
    counts-requires
    same_length
    same-length-2
    returns)
