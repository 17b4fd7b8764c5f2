-- `ticket::is_valid`: the second test is asked where the first holds.
use native.Mathlib.Omega.{arith}
use borrow.Author.Tests.{eq-eqb, ne_eqb}
use Rattle.definitions.specs.Ticket.{last_count, ticket_valid}
use Rattle.ticket.proofs.is_valid.Goals as goal

pub returns-then-given-count : goal.returns-then-given-count
unfolding ticket_valid last_count
returns-then-given-count c = let a = c.args in rw (eq-eqb a.given a.count (omega arith))

pub returns-else-given-count : goal.returns-else-given-count
unfolding ticket_valid
returns-else-given-count c = let a = c.args in rw (ne_eqb a.given a.count (λ e. omega arith))
