-- `fdr_image::are_operators`: `all` over the numbers of the operators.
use Rattle.std.proofs.Common.{rules, arith, ◌+◌}
use borrow.Author.Tests.{tests}
use Rattle.std.proofs.lemmas.Iterator.{serves_from_Range}
use Rattle.definitions.specs.FdrImage.{domains_in}
use Rattle.definitions.proofs.Chains.{all_of}
use Rattle.directory.proofs.Laws.{directory_lies}
use Rattle.fdr_image.specs.Walk.{operators_right}
use Rattle.fdr_image.proofs.Below.{below_yielded}
use Rattle.fdr_image.proofs.Reading.{block_there}
use Rattle.fdr_image.proofs.are_operators.Goals as goal

pub all-requires-clause-callable : goal.all-requires-clause-callable
all-requires-clause-callable c =
    serves_from_Range (λ x q k. search (rules, tests)) (λ x low high. let l = directory_lies _ _ (x + 4) c.requires.1 (omega arith) in search rules)

pub returns : goal.returns
unfolding operators_right
returns c =
    all_of (block_there (domains_in c.args.domains.now) c.args.image.now) _ _ c.all.ensures.ran (below_yielded c.args.operators) (λ x b q k. search rules)
