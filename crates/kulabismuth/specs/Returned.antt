-- What an exported call returns: the number of its question, 0 for a finding, and two values or places. Assumes nothing.
use Rattle.std.specs.Prelude.{ℕ, Bool, cond}
use Rattle.definitions.specs.Answer.{Refusal, Answer, finding, refused}
use Rattle.definitions.specs.Synthesis.{Made}
use Rattle.definitions.specs.Ticket.{Ticket}

pub record Returned : Type 0 where
  pub number : ℕ
  pub first : ℕ
  pub second : ℕ

abbrev pub returned : ℕ → ℕ → ℕ → Returned
returned q i j = record { number = q; first = i; second = j }

abbrev pub returned_refusal : Refusal → Returned
returned_refusal r = returned r.number r.first r.second

abbrev pub returned_verdict : Answer (Unit {0}) → Returned
returned_verdict (finding u) = returned 0 0 0
returned_verdict (refused r) = returned_refusal r

-- 1 if it holds, 0 if not
abbrev pub returned_test : Answer Bool → Returned
returned_test (finding b) = returned 0 (cond b 1 0) 0
returned_test (refused r) = returned_refusal r

abbrev pub returned_count : Answer ℕ → Returned
returned_count (finding k) = returned 0 k 0
returned_count (refused r) = returned_refusal r

abbrev pub returned_made : Answer Made → Returned
returned_made (finding x) = returned 0 x.rows x.rounds
returned_made (refused r) = returned_refusal r

abbrev pub returned_ticket : Answer Ticket → Returned
returned_ticket (finding k) = returned 0 k.count k.operator
returned_ticket (refused r) = returned_refusal r
