-- `judge::bulk::lacks_flag`: the literal that it must hold, then those with a flag.
use Rattle.std.proofs.Common.{not, sym, ◌∙◌, ap}
use Rattle.definitions.specs.Lists.{any}
use Rattle.definitions.specs.Closure.{has}
use Rattle.judge.proofs.Flagged.{lacks_missing, lacks_held}
use Rattle.judge.proofs.bulk.lacks_flag.Goals as goal

pub returns-then-has_literal : goal.returns-then-has_literal
returns-then-has_literal c =
    ap not (c.some_flagged.ensures ∙ ap (any (has c.args.flags.now)) c.literals.ensures) ∙ sym (lacks_held _ _ _ (sym c.if-has_literal.ensures))

pub returns-else-has_literal : goal.returns-else-has_literal
returns-else-has_literal c = c.if-has_literal.false ∙ sym (lacks_missing _ _ _ (sym c.if-has_literal.ensures))
