-- Question 27 first, then the image is written.
use Rattle.std.proofs.Common.{◌∙◌, sym}
use Rattle.definitions.specs.Answer.{ask}
use Rattle.answer.proofs.Laws.{left_by, outcome_of, asked_yes}
use Rattle.joining.proofs.Calls.{join_not, join_done}
use Rattle.joining.proofs.join_read.Goals as goal

pub returns-in_err-ask : goal.returns-in_err-ask
returns-in_err-ask c =
    outcome_of _ _ _ _ (left_by _ _ c.from_residual.ensures.1) (join_not _ _ _ _ c.fits.ensures _ c.in_err-ask.ensures)

pub write-requires : goal.write-requires
unfolding ask
write-requires c = record {
  first = c.requires.0;
  second = c.requires.1;
  fits = sym c.fits.ensures ∙ asked_yes _ _ _ _ c.in_ok-ask.ensures;
}

pub returns : goal.returns
unfolding ask
returns c = join_done _ _ _ _ c.fits.ensures (asked_yes _ _ _ _ c.in_ok-ask.ensures) c.write.ensures
