-- `fdr_image::domain::atom_values`: all values but none, if it is one.
use Rattle.std.proofs.Common.{arith, ◌∙◌}
use Rattle.fdr_image.proofs.DomainLaws.{atom_values_rest}
use Rattle.fdr_image.proofs.domain.atom_values.Goals as goal

pub returns : goal.returns
returns c = (c.saturating_sub.ensures ∙ atom_values_rest _ _ _ c.size.ensures.0 c.none_flag.ensures.0, omega arith)
