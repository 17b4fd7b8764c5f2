use Rattle.definitions.specs.Answer.{ask}
use Rattle.answer.proofs.ask.Goals as goal

pub returns : goal.returns
unfolding ask
returns c = c.ask_at.ensures
