-- `coding::found::is_codable`: something is noted, or none is a value.
use Rattle.std.proofs.Common.{not, ap, ◌∙◌}
use borrow.Author.Tests.{ne_eqb}
use Rattle.coding.proofs.Laws.{codable_yes, codable_none}
use Rattle.coding.proofs.found.is_codable.Goals as goal

pub returns-then-noted-ne0 : goal.returns-then-noted-ne0
returns-then-noted-ne0 c = ap not (ne_eqb _ _ c.if-noted-ne0.true) ∙ codable_yes _ _ _ c.if-noted-ne0.true

pub returns-else-noted-ne0 : goal.returns-else-noted-ne0
returns-else-noted-ne0 c = codable_none _ _ _ _ c.if-noted-ne0.false c.none_flag.ensures
