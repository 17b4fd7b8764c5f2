-- `reencoding::block::literals`: the literals from the index on are left to be written.
use Rattle.std.proofs.Common.{drop}
use Rattle.writing.specs.Writing.{Writing}
use Rattle.reencoding.specs.Words.{literals_by}
use Rattle.reencoding.proofs.block.literals.Given as goal

abbrev pub invariant-loop-l : goal.invariant-loop-l
invariant-loop-l l = Writing l.fn.target l.at (literals_by l.places l.list) l.target l.to (literals_by l.places (drop l.l-index l.list))
