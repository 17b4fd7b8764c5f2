-- `cover::none::omit`: all literals lie in one group only if they lie in that of the first.
use Rattle.std.proofs.Common.{◌<◌, length, arith, sym, ◌∙◌}
use Rattle.definitions.proofs.LiteralLaws.{low_at}
use Rattle.cover.proofs.Omitting.{omit_lies, omit_not}
use Rattle.cover.proofs.none.omit.Goals as goal

pub bounds-places-first : goal.bounds-places-first
bounds-places-first c = omega (arith, low_at _ _ 0 c.requires.1 c.requires.0, c.wide-first.ensures.0)

pub returns-then-lies_in : goal.returns-then-lies_in
returns-then-lies_in c = λ v.
    let low = c.requires.2 c.wide-first.result in
    let inside : c.wide-group.result < length c.args.none.now = omega arith in
    omit_lies _ _ _ _ c.requires.0 c.wide-first.ensures.0 c.wide-group.ensures.0 c.args.none.now v inside (sym c.lies_in.ensures ∙ c.if-lies_in.true)

pub returns-else-lies_in : goal.returns-else-lies_in
returns-else-lies_in c = λ v.
    omit_not _ _ _ _ c.requires.0 c.wide-first.ensures.0 c.wide-group.ensures.0 c.args.none.now v (sym c.lies_in.ensures ∙ c.if-lies_in.false)
