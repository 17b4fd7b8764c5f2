-- `propagation::close_fully`: the marks of the atoms are cleared, then those of the whole closure set.
use native.Mathlib.Omega.{arith}
use Rattle.definitions.proofs.MarkBits.{new_marks}
use Rattle.propagation.proofs.Closed.{ready_cleared, close_whole}
use borrow.Author.Rules.{rules}
use Rattle.propagation.proofs.close_fully.Statement.{statement}
use Rattle.propagation.proofs.close_fully.Tie as tie

-- where the marks are cleared: the start, and that they are bytes
abbrev bytes : tie.After-clear → tie.After-slice_known-1
bytes d = d.before.before

abbrev start : tie.After-clear → tie.Start
start d = (bytes d).before.before.before

-- where they are lent
abbrev cleared : tie.After-propagate-arg-1 → tie.After-clear
cleared c = c.before.before.before

clear-requires : tie.Need-clear-requires
clear-requires c κs = search rules

propagate-requires : tie.Need-propagate-requires
propagate-requires c κs =
    let d = cleared c in
    let p = (start d).requires in
    (ready_cleared _ _ _ d.clear.ensures _ _ _ p, p.below)

same_length : tie.Need-shape_of-marks
same_length c = search rules

returns : tie.Need-returns
unfolding new_marks
returns c =
    let q = c.before.before in
    let d = cleared q.before in
    let r = q.propagate in
    close_whole _ _ _ _ _ _ (start d).requires d.clear.ensures r.ensures.0 r.result r.ensures.1
    (λ i. omega (arith, (bytes d).slice_known-1.given i)) (λ i. omega (arith, c.slice_known-3-1.given i))

pub close_fully_spec : {M : Type 1} → statement M
close_fully_spec = tie.close (tie.spec
    clear-requires
    propagate-requires
    same_length
    returns)
