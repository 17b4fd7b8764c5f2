-- The checker's questions, then the image.
use Rattle.std.proofs.Common.{◌∙◌}
use Rattle.answer.proofs.Laws.{left_unwritten}
use Rattle.checker.proofs.Accepting.{accepted}
use Rattle.reencoding.proofs.ImageLaws.{encode_refused, encode_accepted}
use Rattle.reencoding.proofs.reencode.Goals as goal

pub returns-in_err-accept : goal.returns-in_err-accept
returns-in_err-accept c = left_unwritten _ _ _ _ c.from_residual.ensures.1 (encode_refused _ _ _ _ _ c.in_err-accept.ensures)

pub reencode_read-requires : goal.reencode_read-requires
reencode_read-requires c = let a = accepted _ _ _ c.in_ok-accept.ensures in (a.reads, a.rows)

pub returns : goal.returns
returns c = c.reencode_read.ensures ∙ encode_accepted _ _ _ _ (accepted _ _ _ c.in_ok-accept.ensures)
