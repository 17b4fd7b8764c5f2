-- The definitions' state with a count, ticket and answer of an ask, of those of the code. Assumes nothing.
use Rattle.std.specs.Prelude.{ℕ, List, Result, Ok, Err}
use Rattle.definitions.specs.Answer.{Answer, finding, refused}
use Rattle.definitions.specs.Ticket as paper
use Rattle.answer.specs.declared.Refusal.{Refusal}
use Rattle.answer.specs.Answer.{placed}
use Rattle.ticket.specs.declared.Ticket.{Ticket}

abbrev pub counted : List ℕ → ℕ → paper.CountedState
counted s n = record { state = s; count = n }

abbrev pub ticket_with : ℕ → ℕ → paper.Ticket
ticket_with n i = record { count = n; operator = i }

abbrev pub ticket_of : Ticket → paper.Ticket
ticket_of k = ticket_with k.count k.operator

abbrev pub asked_answer : Result Ticket Refusal → Answer paper.Ticket
asked_answer (Ok k) = finding (ticket_of k)
asked_answer (Err f) = refused (placed f)
