-- `cover::none::is_in`: the variable of a positive literal's atom stands at the index of the literal.
use Rattle.std.proofs.Common.{ℕ, get_or, sym, ap, ◌∙◌}
use Rattle.cover.proofs.Omitting.{in_positive, in_negative}
use Rattle.cover.proofs.none.is_in.Goals as goal

pub returns-then-is_positive : goal.returns-then-is_positive
returns-then-is_positive c =
    in_positive _ _ _ _ (sym c.is_positive.ensures ∙ c.if-is_positive.true) (c.wide.ensures.0 ∙ ap (λ (i : ℕ). get_or c.args.places.now i 0) c.index.ensures)

pub returns-else-is_positive : goal.returns-else-is_positive
returns-else-is_positive c = c.if-is_positive.false ∙ in_negative _ _ _ (sym c.is_positive.ensures ∙ c.if-is_positive.false)
