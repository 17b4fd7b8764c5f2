use mathlib.Core.Path.{ap, ◌∙◌}
use Rattle.kulabismuth.specs.Returned.{returned_verdict}
use Rattle.definitions.proofs.AnswerLaws.{answered, left}
use borrow.Author.Rules.{rules}
use Rattle.kulabismuth.proofs.kb_fdr_initial.Statement.{statement}
use Rattle.kulabismuth.proofs.kb_fdr_initial.Tie as tie

-- where the call is made
abbrev back : tie.After-verdict → tie.After-slice_known-2-1
back c = c.before.before.before

abbrev made : tie.After-verdict → tie.After-set_initial
made c = (back c).before.before

set-initial-requires : tie.Need-set_initial-requires
set-initial-requires c κs = search rules

verdict-requires : tie.Need-verdict-requires
verdict-requires c κs = search rules

same_length : tie.Need-shape_of-state
same_length c = search rules

returns : tie.Need-returns
returns c =
    let e = (made c).set_initial.ensures in
    (c.verdict.ensures ∙ ap returned_verdict (answered _ _ _ _ e), left _ _ _ _ e)

pub kb_fdr_initial_spec : {M : Type 1} → statement M
kb_fdr_initial_spec =
    tie.close (tie.spec
    set-initial-requires
    verdict-requires
    same_length
    returns)
