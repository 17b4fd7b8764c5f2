use mathlib.Core.Path.{ap, ◌∙◌}
use Rattle.kulabismuth.specs.Returned.{returned_verdict}
use borrow.Author.Rules.{rules}
use Rattle.kulabismuth.proofs.kb_read.Statement.{statement}
use Rattle.kulabismuth.proofs.kb_read.Tie as tie

read-requires : tie.Need-read-requires
read-requires c κs = search rules

verdict-requires : tie.Need-verdict-requires
verdict-requires c κs = search rules

returns : tie.Need-returns
returns c = c.verdict.ensures ∙ ap returned_verdict c.read.ensures

pub kb_read_spec : {M : Type 1} → statement M
kb_read_spec = tie.close (tie.spec
    read-requires
    verdict-requires
    returns)
