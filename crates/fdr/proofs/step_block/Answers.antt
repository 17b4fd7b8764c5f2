-- Question 20, then the rows; what was noted is cleared.
use Rattle.std.proofs.Common.{◌∙◌, ap, refl}
use Rattle.definitions.specs.Answer.{becomes}
use Rattle.answer.proofs.Laws.{left_by, outcome_of, handed_on, goes_on}
use Rattle.answer.proofs.ReaderCalls.{stays}
use Rattle.fdr.specs.Change.{stepped}
use Rattle.fdr.proofs.Calls.{low_block, blank_size, notes_cleared}
use Rattle.fdr.proofs.step_block.Goals as goal

pub returns-in_err-ask : goal.returns-in_err-ask
unfolding stepped
returns-in_err-ask c = (
  outcome_of _ _ _ _ (left_by _ _ c.from_residual.ensures.1)
      (stays _ _ _ (rw (← c.precondition_holds.ensures) (handed_on _ _ _ c.in_err-ask.ensures))),
  refl,
)

pub unnote-requires : goal.unnote-requires
unnote-requires c = (low_block _ _ _ _ c.requires, c.apply-applied.auto.changes ∙ blank_size _ _ _ _ c.requires)

pub returns : goal.returns
unfolding stepped
returns c = (
  c.apply-applied.ensures.0 ∙ ap (becomes c.args.state.now) (rw (← c.precondition_holds.ensures) (goes_on _ _ _ c.in_ok-ask.ensures)),
  notes_cleared _ _ _ _ c.requires _ _ c.apply-applied.auto.changes c.apply-applied.ensures.1 c.unnote.ensures,
)
