-- `cover::mutex::has_two`: the row that is looked up is that of the clause.
use Rattle.definitions.specs.Literal.{fill}
use Rattle.definitions.specs.Clauses.{width}
use Rattle.cover.proofs.Lookups.{row_two, two_low}
use Rattle.cover.proofs.mutex.has_two.Goals as goal

pub returns : goal.returns
unfolding width fill
returns c = c.is_there.ensures _ (row_two _ _) (two_low _ _ c.requires.1 c.requires.2)
