-- `writing::directory::pairs`: each part begins where the one before it ends.
use Rattle.writing.proofs.DirectoryLaws.{Pairing}
use Rattle.writing.proofs.directory.pairs.Given as goal

abbrev pub invariant-loop-length : goal.invariant-loop-length
invariant-loop-length l = Pairing l.lengths l.initial.target l.start l.at l.target l.offset l.to l.length-index
