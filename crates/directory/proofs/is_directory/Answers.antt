-- `directory::is_directory`: the laws of one pair, and of the end.
use mathlib.Core.Path.{sym, ◌∙◌}
use mathlib.Core.List.{[], ◌∷◌}
use lib.ListN.{length-append}
use Rattle.directory.proofs.Laws.{directory_short, tested_start, tested_off, tested_on, tested_end}
use Rattle.directory.proofs.is_directory.Goals as goal

pub returns-then-image-at : goal.returns-then-image-at
returns-then-image-at c = sym (directory_short _ _ c.if-image-at.true)

pub loop-pair-init : goal.loop-pair-init
loop-pair-init c = tested_start _ _ _ _ c.if-image-at.false (cc) (cc)

pub returns-then-wide-at : goal.returns-then-wide-at
returns-then-wide-at c =
    let s = c.in-Some.ensures.steps in
    sym (tested_off c.loop-pair.invariant _ _ s.1.0 s.1.1 (λ e. c.if-wide-at.true (c.wide.ensures.0 ∙ e)))

pub loop-pair-preserved : goal.loop-pair-preserved
loop-pair-preserved c =
    let s = c.in-Some.ensures.steps in
    tested_on c.loop-pair.invariant _ _ s.1.0 s.1.1 _ _ _ (sym c.wide.ensures.0 ∙ c.if-wide-at.false)
    (length-append c.loop-pair.yielded (c.in-Some.pair ∷ [])) c.wide-at.ensures.0 s.0

pub returns : goal.returns
returns c = sym (tested_end c.loop-pair.invariant c.in-None.ensures.steps.1.0)
