-- `fdr_image::are_parts`: the domains, then the other parts over them.
use Rattle.std.proofs.Common.{arith, sym, ◌∙◌}
use Rattle.std.proofs.lemmas.Grind.{common_steps}
use Rattle.fdr_image.specs.Walk.{parts_right}
use Rattle.fdr_image.proofs.Reading.{few_variables, domains_few, laid_lies, laid_room}
use Rattle.fdr_image.proofs.are_parts.Goals as goal

pub part-domains-requires : goal.part-domains-requires
part-domains-requires c = laid_lies _ c.requires _ (omega arith)

pub bounds-image-0 : goal.bounds-image-0
bounds-image-0 c = omega (arith, laid_room _ c.requires)

pub are_domains-requires : goal.are_domains-requires
are_domains-requires c = omega (arith, few_variables _ c.requires.counts)

pub is_rest-requires : goal.is_rest-requires
is_rest-requires c =
    record { laid = c.requires; few = domains_few _ _ _ c.requires c.wide.ensures.0 (sym c.are_domains.ensures ∙ c.if-are_domains.true) }

pub returns-then-are_domains : goal.returns-then-are_domains
unfolding parts_right
returns-then-are_domains c = grind (arith, common_steps)

pub returns-else-are_domains : goal.returns-else-are_domains
unfolding parts_right
returns-else-are_domains c = grind (arith, common_steps)
