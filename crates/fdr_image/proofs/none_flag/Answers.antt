-- `fdr_image::none_flag`: the domains are those of the task.
use mathlib.Core.Path.{◌∙◌, ap}
use mathlib.Core.List.{List}
use native.Mathlib.Omega.{arith}
use lib.ListN.{length, get_or}
use Rattle.definitions.specs.Groups.{Domain}
use Rattle.definitions.specs.Fdr.{domain_at, no_domain}
use Rattle.fdr_image.proofs.none_flag.Goals as goal

pub none_flag-requires : goal.none_flag-requires
none_flag-requires c = omega (arith, c.requires.1, ap length c.domains.ensures)

pub returns : goal.returns
unfolding domain_at
returns c = c.none_flag.ensures.0 ∙ ap (λ (D : List Domain). (get_or D c.args.variable no_domain).none) c.domains.ensures
