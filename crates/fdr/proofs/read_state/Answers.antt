-- Question 17, then 18.
use Rattle.std.proofs.Common.{◌∙◌}
use Rattle.answer.proofs.Laws.{left_by}
use Rattle.answer.proofs.ReaderCalls.{first_refused, first_asked}
use Rattle.fdr_image.proofs.Reading.{reads}
use Rattle.fdr.specs.Post.{fdr_reader}
use Rattle.fdr.proofs.read_state.Goals as goal

pub returns-in_err-read : goal.returns-in_err-read
returns-in_err-read c = left_by _ _ c.from_residual.ensures.1 ∙ first_refused fdr_reader _ _ _ c.in_err-read.ensures

pub is_state-requires : goal.is_state-requires
is_state-requires c = reads _ c.in_ok-read.ensures

pub returns : goal.returns
returns c = c.ask.ensures ∙ first_asked fdr_reader _ _ _ (reads _ c.in_ok-read.ensures).found _ c.is_state.ensures
