-- `cover::mutex::has_one`: the row that is looked up is that of the clause.
use Rattle.definitions.specs.Literal.{fill}
use Rattle.definitions.specs.Clauses.{width}
use Rattle.cover.proofs.Lookups.{row_one, one_low}
use Rattle.cover.proofs.mutex.has_one.Goals as goal

pub returns : goal.returns
unfolding width fill
returns c = c.is_there.ensures _ (row_one _) (one_low _ c.requires.1)
