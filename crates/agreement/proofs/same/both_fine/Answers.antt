-- By the cases of the two answers.
use Rattle.std.proofs.Common.{◌∙◌, sym}
use Rattle.agreement.proofs.OkLaws.{second_ok, first_not_ok}
use Rattle.agreement.proofs.same.both_fine.Goals as goal

pub returns-then-is_ok : goal.returns-then-is_ok
returns-then-is_ok c = c.is_ok-then-is_ok.ensures.value ∙ second_ok _ _ (sym c.is_ok.ensures.value ∙ c.if-is_ok.true)

pub returns-else-is_ok : goal.returns-else-is_ok
returns-else-is_ok c = c.if-is_ok.false ∙ first_not_ok _ _ (sym c.is_ok.ensures.value ∙ c.if-is_ok.false)
