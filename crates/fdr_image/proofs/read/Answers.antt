-- One question, whether the image is right.
use Rattle.std.proofs.Common.{◌∙◌, ap}
use Rattle.definitions.specs.Answer.{ask}
use Rattle.fdr_image.proofs.Reading.{read_asks}
use Rattle.fdr_image.proofs.read.Goals as goal

pub returns : goal.returns
returns c = c.ask.ensures ∙ ap (ask 17) c.is_right.ensures ∙ read_asks _
