-- `propagation::marks::bytes`: a byte for four atoms, rounded up.
use mathlib.Core.Path.{◌∙◌}
use native.Mathlib.Omega.{arith}
use Rattle.definitions.specs.Marks.{mark_bytes}
use Rattle.propagation.proofs.marks.bytes.Goals as goal

pub returns : goal.returns
unfolding mark_bytes
returns c = c.div_ceil.ensures ∙ omega arith
