-- `card::line::write_clause`: the fields from i on are left to be written.
use Rattle.std.proofs.Common.{map, drop}
use Rattle.definitions.specs.Card.{literal_text, clause_line}
use Rattle.writing.specs.Writing.{Writing}
use Rattle.text.specs.Fields.{fields_from}
use Rattle.card.proofs.line.write_clause.Given as goal

abbrev pub invariant-loop-i : goal.invariant-loop-i
invariant-loop-i l = Writing l.fn.out l.at (clause_line l.literals) l.out l.to (fields_from l.i (map literal_text (drop l.i l.literals)))
