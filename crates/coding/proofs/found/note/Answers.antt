-- `coding::found::note`: the laws of an atom that is false, is the second true one, or is the first.
use Rattle.coding.proofs.Laws.{note_not, note_two, note_first}
use Rattle.coding.proofs.found.note.Goals as goal

pub returns-then-byte-ne1 : goal.returns-then-byte-ne1
returns-then-byte-ne1 c = note_not _ _ _ _ c.if-byte-ne1.true

pub returns-then-values-variable-ne0 : goal.returns-then-values-variable-ne0
returns-then-values-variable-ne0 c = note_two _ _ _ _ c.if-byte-ne1.false c.if-values-variable-ne0.true

pub returns : goal.returns
returns c = note_first _ _ _ _ c.if-byte-ne1.false c.if-values-variable-ne0.false c.requires.0 c.requires.1
