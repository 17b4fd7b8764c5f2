-- `writing::words_of`: the words of the pairs before are written, those of the bytes that the iterator has left are not.
use Rattle.std.specs.Slice.Iter.{chunks_exact_rest, chunks_exact_size}
use Rattle.std.specs.Iterator.Adapters.{enumerate_source, enumerate_count}
use Rattle.writing.proofs.ByteWords.{Halved}
use Rattle.writing.proofs.words_of.Given as goal

abbrev pub invariant-loop-i : goal.invariant-loop-i
invariant-loop-i l =
    let pairs = enumerate_source l.i-iterator in
    Halved l.bytes l.initial.target l.target (chunks_exact_rest pairs) (enumerate_count l.i-iterator) (chunks_exact_size pairs)
