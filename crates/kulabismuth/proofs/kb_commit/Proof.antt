-- `kulabismuth::kb_commit`: the answer of the commit as numbers, and the lent state and count.
use mathlib.Core.Path.{ap, ◌∙◌}
use Rattle.kulabismuth.specs.Returned.{returned_verdict}
use Rattle.ticket.proofs.Outcomes.{answered, left}
use borrow.Author.Rules.{rules}
use Rattle.kulabismuth.proofs.kb_commit.Statement.{statement}
use Rattle.kulabismuth.proofs.kb_commit.Tie as tie

-- where the call is made
abbrev back : tie.After-verdict → tie.After-slice_known-2-1
back c = c.before.before.before

abbrev made : tie.After-verdict → tie.After-commit
made c = (back c).before.before

commit-requires : tie.Need-commit-requires
commit-requires c κs = search rules

verdict-requires : tie.Need-verdict-requires
verdict-requires c κs = search rules

same_length : tie.Need-shape_of-state
same_length c = search rules

returns : tie.Need-returns
returns c =
    let e = (made c).commit.ensures in
    (c.verdict.ensures ∙ ap returned_verdict (answered _ _ _ _ e), left _ _ _ _ e)

pub kb_commit_spec : {M : Type 1} → statement M
kb_commit_spec = tie.close (tie.spec
    commit-requires
    verdict-requires
    same_length
    returns)
