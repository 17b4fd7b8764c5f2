-- `fdr::change::note_kind`: a set, a clear, or nothing.
use Rattle.std.proofs.Common.{◌∙◌}
use Rattle.fdr.proofs.Notes.{kind_set, kind_clear, kind_other}
use Rattle.fdr.proofs.ByRows.{at_same}
use Rattle.fdr.proofs.change.note_kind.Goals as goal

pub returns-in-Some-Set : goal.returns-in-Some-Set
returns-in-Some-Set c = (c.note_set.ensures.0 ∙ kind_set _ _ _ _ _ (cc), c.note_set.ensures.1)

pub returns-in-Some-Clear : goal.returns-in-Some-Clear
returns-in-Some-Clear c = (kind_clear _ _ _ _ _ (cc) _ c.note_clear.ensures.0, c.note_clear.ensures.1)

pub returns-in-None : goal.returns-in-None
returns-in-None c = (kind_other _ _ _ _ _ (cc), at_same _ _)
