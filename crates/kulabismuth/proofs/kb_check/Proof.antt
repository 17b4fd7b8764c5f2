use mathlib.Core.Path.{ap, ◌∙◌}
use Rattle.kulabismuth.specs.Returned.{returned_verdict}
use borrow.Author.Rules.{rules}
use Rattle.kulabismuth.proofs.kb_check.Statement.{statement}
use Rattle.kulabismuth.proofs.kb_check.Tie as tie

accept-requires : tie.Need-accept-requires
accept-requires c κs = search rules

verdict-requires : tie.Need-verdict-requires
verdict-requires c κs = search rules

same_length : tie.Need-shape_of-marks
same_length c = search rules

-- the places of the function
abbrev after_accept : tie.After-verdict-arg-1 → tie.After-accept
after_accept c = c.before.before.before

abbrev after_verdict_arg : tie.After-verdict → tie.After-verdict-arg-1
after_verdict_arg c = c.before.before

returns : tie.Need-returns
returns c = c.verdict.ensures ∙ ap returned_verdict (after_accept (after_verdict_arg c)).accept.ensures

pub kb_check_spec : {M : Type 1} → statement M
kb_check_spec = tie.close (tie.spec
    accept-requires
    verdict-requires
    same_length
    returns)
