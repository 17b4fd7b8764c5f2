-- `directory::is_directory`: the test of the whole is the test of the pairs that are left.
use Rattle.std.specs.Prelude.{length}
use Rattle.std.specs.Slice.Iter.{chunks_exact_rest, chunks_exact_size}
use Rattle.directory.proofs.Laws.{Tested}
use Rattle.directory.proofs.is_directory.Given as goal

abbrev pub invariant-loop-pair : goal.invariant-loop-pair
invariant-loop-pair l =
    Tested l.image l.pairs l.at (length l.yielded) (chunks_exact_rest l.pair-iterator) (chunks_exact_size l.pair-iterator)
