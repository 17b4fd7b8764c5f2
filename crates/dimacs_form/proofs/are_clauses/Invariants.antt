-- `dimacs_form::are_clauses`: the test of all words is that of the words that are left, with the clauses counted so far.
use Rattle.std.proofs.Common.{length, ◌-◌, true, ◌≡◌, ℕ, ◌<◌, min, drop}
use Rattle.definitions.specs.Dimacs.{tokens}
use Rattle.dimacs_form.specs.Walk.{tail_from}
use Rattle.dimacs_form.specs.Places.{Place}
use Rattle.dimacs_form.specs.Numbers.{most_size}
use Rattle.dimacs_form.proofs.are_clauses.Given as goal

abbrev pub invariant-loop-at : goal.invariant-loop-at
invariant-loop-at l =
    record {
      place : Place l.text l.at;
      few : l.clauses < l.at;
      rest : (k : ℕ) → l.count ≡ min most_size k
          → tail_from l.atoms k 0 true (tokens (drop l.from l.text)) ≡ tail_from l.atoms k l.clauses l.ended (tokens (drop l.at l.text));
    }

abbrev pub decreases-loop-at : goal.decreases-loop-at
decreases-loop-at l = length l.text - l.at
