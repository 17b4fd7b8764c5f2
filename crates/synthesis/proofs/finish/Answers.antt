-- By the ways that the rounds end.
use Rattle.std.proofs.Common.{arith}
use Rattle.definitions.specs.Clauses.{width}
use Rattle.synthesis.proofs.Rounds.{end_found}
use Rattle.synthesis.proofs.finish.Goals as goal

pub overflow_mul-count : goal.overflow_mul-count
unfolding width
overflow_mul-count c = omega (arith, c.requires)

pub fill-requires : goal.fill-requires
unfolding width
fill-requires c = c.requires

pub returns-in-Finished : goal.returns-in-Finished
unfolding width
returns-in-Finished c = end_found c.args.clauses.now c.fill.new.words c.args.count c.args.made c.args.end c.in-Finished.is c.fill.ensures
