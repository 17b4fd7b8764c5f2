-- `propagation::walk`: the state between two rows, and within a row that of the scan.
use Rattle.std.specs.Slice.Iter.{chunks_exact_rest, chunks_exact_size}
use Rattle.propagation.specs.Walk.{set_of}
use Rattle.propagation.proofs.Scans.{Scanning}
use Rattle.propagation.proofs.Rows.{Going}
use Rattle.propagation.proofs.walk.Given as goal

abbrev pub invariant-loop-word : goal.invariant-loop-word
invariant-loop-word l = Scanning l.row (set_of l.atoms l.marks) l.word-index l.first

abbrev pub invariant-walk : goal.invariant-walk
invariant-walk l =
    Going l.clauses l.initial.marks l.marks l.atoms l.stops l.pass l.known (chunks_exact_rest l.row-iterator) (chunks_exact_size l.row-iterator)
