-- `writing::words_of`: the iterator gives two bytes after two, and ends where less than two are left.
use Rattle.writing.proofs.ByteWords.{bytes_start, bytes_next, bytes_end}
use Rattle.writing.proofs.words_of.Goals as goal

pub loop-i-init : goal.loop-i-init
loop-i-init c = bytes_start _ _ _ _ _ (cc) (cc) (cc)

pub loop-i-preserved : goal.loop-i-preserved
loop-i-preserved c =
    let s = c.in-Some.ensures.steps in
    bytes_next c.loop-i.invariant _ _ _ _ _ _ s.0.1.0 s.0.1.1 s.1 s.0.0 s.2 c.word.ensures

pub returns : goal.returns
returns c = bytes_end c.loop-i.invariant c.in-None.ensures.steps.0.1.0
