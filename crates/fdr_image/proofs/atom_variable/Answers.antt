-- `fdr_image::atom_variable`: the places are the atoms, whose variables have domains.
use mathlib.Core.Path.{◌∙◌, ap}
use mathlib.Core.List.{List}
use native.Mathlib.Omega.{arith}
use lib.ListN.{length, get_or}
use Rattle.definitions.specs.Groups.{Place}
use Rattle.fdr_image.specs.Walk.{place}
use Rattle.fdr_image.proofs.Reading.{variable_low}
use Rattle.fdr_image.proofs.atom_variable.Goals as goal

pub variable-requires : goal.variable-requires
variable-requires c = omega (arith, c.requires.1, ap length c.places.ensures)

pub returns : goal.returns
returns c = (
  c.variable.ensures.0
      ∙ ap (λ (P : List Place). (get_or P c.args.atom (place 0 0)).variable) c.places.ensures,
  omega (
    arith,
    variable_low _ c.requires.0 _ c.requires.1,
    c.variable.ensures.0
        ∙ ap (λ (P : List Place). (get_or P c.args.atom (place 0 0)).variable) c.places.ensures,
  ),
)
