-- `kulabismuth::kb_ask`: the answer of the ask, as numbers.
use mathlib.Core.Path.{ap, ◌∙◌}
use Rattle.kulabismuth.specs.Returned.{returned_ticket}
use borrow.Author.Rules.{rules}
use Rattle.kulabismuth.proofs.kb_ask.Statement.{statement}
use Rattle.kulabismuth.proofs.kb_ask.Tie as tie

-- where the call is made
abbrev made : tie.After-ticket → tie.After-ask
made c = c.before.before.before

ask-requires : tie.Need-ask-requires
ask-requires c κs = search rules

ticket-requires : tie.Need-ticket-requires
ticket-requires c κs = search rules

returns : tie.Need-returns
returns c = c.ticket.ensures ∙ ap returned_ticket (made c).ask.ensures

pub kb_ask_spec : {M : Type 1} → statement M
kb_ask_spec = tie.close (tie.spec
    ask-requires
    ticket-requires
    returns)
