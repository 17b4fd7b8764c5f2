-- `fdr::change::note_set`: the two laws of a set, by whether one was noted before.
use native.Mathlib.Omega.{arith}
use Rattle.fdr.proofs.Notes.{set_first, set_again}
use Rattle.fdr.proofs.ByRows.{at_same, at_set}
use Rattle.fdr.proofs.change.note_set.Goals as goal

pub returns-then-change-lt-FIRST_VALUE : goal.returns-then-change-lt-FIRST_VALUE
returns-then-change-lt-FIRST_VALUE c = (set_first _ _ _ (omega arith), at_set _ _ _)

pub returns : goal.returns
returns c = (set_again _ _ _ (omega arith), at_same _ _)
