-- `fdr_image::domain::is_atom_value`: the domains are as many as the pairs of words.
use Rattle.std.proofs.Common.{arith, ◌∙◌}
use borrow.Author.Tests.{le-ltb}
use Rattle.definitions.specs.FdrImage.{domains_in}
use Rattle.fdr_image.proofs.Pairs.{domains_length}
use Rattle.fdr_image.proofs.DomainLaws.{atom_value_out, atom_value_in}
use Rattle.fdr_image.proofs.domain.is_atom_value.Goals as goal

pub atom_values-requires : goal.atom_values-requires
atom_values-requires c = omega (arith, domains_length c.args.domains.now)

pub returns-then-variable-domains : goal.returns-then-variable-domains
returns-then-variable-domains c =
    atom_value_in (domains_in c.args.domains.now) _ _ _ (omega (arith, domains_length c.args.domains.now)) c.atom_values.ensures.0

pub returns-else-variable-domains : goal.returns-else-variable-domains
returns-else-variable-domains c =
    le-ltb _ _ c.if-variable-domains.false ∙ atom_value_out (domains_in c.args.domains.now) _ _ (omega (arith, domains_length c.args.domains.now))
