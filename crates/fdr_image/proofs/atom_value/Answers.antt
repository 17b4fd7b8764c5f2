-- `fdr_image::atom_value`: the places are the atoms.
use mathlib.Core.Path.{◌∙◌, ap}
use mathlib.Core.List.{List}
use native.Mathlib.Omega.{arith}
use lib.ListN.{length, get_or}
use Rattle.definitions.specs.Groups.{Place}
use Rattle.fdr_image.specs.Walk.{place}
use Rattle.fdr_image.proofs.atom_value.Goals as goal

pub value-requires : goal.value-requires
value-requires c = omega (arith, c.requires.1, ap length c.places.ensures)

pub returns : goal.returns
returns c = (
  c.value.ensures.0 ∙ ap (λ (P : List Place). (get_or P c.args.atom (place 0 0)).value) c.places.ensures,
  c.value.ensures.1,
)
