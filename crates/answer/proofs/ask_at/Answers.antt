use Rattle.definitions.specs.Answer.{ask_at}
use Rattle.answer.proofs.ask_at.Goals as goal

pub returns-then-holds : goal.returns-then-holds
unfolding ask_at
returns-then-holds c = rw c.if-holds.true

pub returns-else-holds : goal.returns-else-holds
unfolding ask_at
returns-else-holds c = rw (c.if-holds.false, c.at.ensures)
