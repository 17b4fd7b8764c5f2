-- `coding::found::are_codable`: `all` over the numbers of the variables.
use Rattle.std.proofs.Common.{rules}
use Rattle.fdr_image.specs.Reads.{fdr_of}
use Rattle.definitions.proofs.Chains.{all_of}
use Rattle.fdr_image.proofs.Below.{below_yielded}
use Rattle.coding.proofs.Laws.{codable_by}
use Rattle.coding.proofs.found.are_codable.Goals as goal

pub returns : goal.returns
returns c =
    rw (← c.variables.ensures.0)
    (all_of (codable_by (fdr_of c.args.image.now) c.args.values.now) _ _ c.all.ensures.ran (below_yielded c.variables.result) (λ x b q k. search rules))
