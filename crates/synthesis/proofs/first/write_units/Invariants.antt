use Rattle.std.proofs.Common.{◌≡◌, ◌-◌, ◌*◌, ◌++◌, length, replicate}
use Rattle.definitions.specs.Literal.{fill}
use Rattle.definitions.specs.Clauses.{width, clause_words}
use Rattle.synthesis.specs.Rounds.{units_from}
use Rattle.synthesis.proofs.first.write_units.Given as goal

-- the rows of the atoms below `a` are written, the others are fill
abbrev pub invariant-loop-a : goal.invariant-loop-a
invariant-loop-a l = record {
  position : l.at ≡ width * l.a;
  words : l.words ≡ clause_words (units_from l.state 0 l.a) ++ replicate (width * (length l.state - l.a)) fill;
}
