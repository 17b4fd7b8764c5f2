-- `propagation::marks::copy`: the bytes of the marks, copied to the front.
use Rattle.propagation.proofs.Copies.{copied_marks}
use Rattle.propagation.proofs.marks.copy.Goals as goal

pub returns : goal.returns
returns c = copied_marks _ _ _ _ _ c.bytes-end.ensures c.requires.1 c.requires.2 c.copy_from_slice.ensures.after
