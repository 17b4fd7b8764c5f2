-- `reencoding::initial::lower`: the lesser value stays.
use Rattle.reencoding.specs.Parts.{lower}
use Rattle.reencoding.proofs.initial.lower.Goals as goal

pub returns : goal.returns
unfolding lower
returns c = cc
