-- `fdr_image::domain_size`: the domains are those of the task.
use mathlib.Core.Path.{◌∙◌, ap}
use mathlib.Core.List.{List}
use native.Mathlib.Omega.{arith}
use lib.ListN.{length, get_or}
use Rattle.definitions.specs.Groups.{Domain}
use Rattle.definitions.specs.Fdr.{domain_at, no_domain}
use Rattle.fdr_image.proofs.domain_size.Goals as goal

pub size-requires : goal.size-requires
size-requires c = omega (arith, c.requires.1, ap length c.domains.ensures)

pub returns : goal.returns
unfolding domain_at
returns c = (
  c.size.ensures.0
      ∙ ap (λ (D : List Domain). (get_or D c.args.variable no_domain).values) c.domains.ensures,
  c.size.ensures.1,
)
