-- `coding::atom::byte_of`: the test of the variable's value, as a byte.
use Rattle.std.proofs.Common.{◌∙◌}
use Rattle.coding.proofs.Laws.{byte_tested}
use Rattle.coding.proofs.atom.byte_of.Goals as goal

pub returns : goal.returns
returns c = c.from.ensures ∙ byte_tested _ _ _ _ _ c.atom_variable-variable.ensures.0 c.atom_value-value.ensures.0 c.wide.ensures.0
