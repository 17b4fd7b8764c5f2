use Rattle.cases.specs.Case.{byte_at}
use Rattle.cases.proofs.Laws.{Filling}
use Rattle.cases.proofs.input.load_bytes.Given as goal

abbrev pub invariant-loop-i : goal.invariant-loop-i
invariant-loop-i l = Filling (byte_at l.words l.from l.count) l.initial.target l.target l.i
