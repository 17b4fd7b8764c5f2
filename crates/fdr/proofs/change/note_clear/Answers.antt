-- `fdr::change::note_clear`: the laws of a clear.
use Rattle.fdr.proofs.Notes.{clear_late, clear_absent, clear_present}
use Rattle.fdr.proofs.ByRows.{at_same, at_set}
use Rattle.fdr.proofs.change.note_clear.Goals as goal
use Rattle.fdr.proofs.change.note_clear.Goals.{else-changes-variable-eq-STAYS-via-then-changes-variable-eq-STAYS+else-value}
use Rattle.fdr.proofs.change.note_clear.Goals.{else-changes-variable-eq-STAYS-via-else-changes-variable-eq-STAYS}

pub returns-then-value : goal.returns-then-value
returns-then-value c = (clear_present _ _ _ _ _ c.value.ensures.0 c.if-changes-variable-eq-STAYS.true c.if-value.true, at_set _ _ _)

pub returns-else-changes-variable-eq-STAYS : goal.returns-else-changes-variable-eq-STAYS
returns-else-changes-variable-eq-STAYS c = (
  elim c.else-changes-variable-eq-STAYS.branch [
    | else-changes-variable-eq-STAYS-via-then-changes-variable-eq-STAYS+else-value w ↦ clear_absent _ _ _ _ _ w.value.ensures.0 w.if-value.false
    | else-changes-variable-eq-STAYS-via-else-changes-variable-eq-STAYS w ↦ clear_late _ _ _ _ w.if-changes-variable-eq-STAYS.false
  ],
  at_same _ _,
)
