-- `propagation::close`: the marks of the atoms are cleared, then those of the closure set.
use mathlib.Core.Path.{sym, subst}
use Rattle.clause.specs.Rows.{clauses_of}
use Rattle.propagation.specs.declared.Closing.{Closing}
use Rattle.propagation.specs.Marks.{Closes}
use Rattle.propagation.proofs.Closed.{ready_cleared, close_done}
use borrow.Author.Rules.{rules}
use Rattle.propagation.proofs.close.Statement.{statement}
use Rattle.propagation.proofs.close.Tie as tie

-- where the marks are cleared: the start
abbrev known : tie.After-clear → tie.After-shared_slice_known-2-1
known d = d.before.before.before

abbrev start : tie.After-clear → tie.Start
start d = (known d).before.before

-- where they are lent
abbrev cleared : tie.After-propagate-arg-1 → tie.After-clear
cleared c = c.before.before.before

clear-requires : tie.Need-clear-requires
clear-requires c κs = search rules

propagate-requires : tie.Need-propagate-requires
propagate-requires c κs =
    let d = cleared c in
    let p = (start d).requires in
    (ready_cleared _ _ _ d.clear.ensures _ _ _ p, p.below)

answer-of-requires : tie.Need-answer_of-requires
answer-of-requires c κs = search rules

same_length : tie.Need-shape_of-marks
same_length c = search rules

returns : tie.Need-returns
returns c =
    let q = c.before.before.before in
    let d = cleared q.before in
    let a = (start d).args in
    let r = q.propagate in
    subst (λ (x : Closing). Closes a.atoms (clauses_of a.clauses.now) a.literals.now r.new.marks x) (sym c.answer_of.ensures)
    (close_done _ _ _ _ _ _ (start d).requires d.clear.ensures r.ensures.0 r.result r.ensures.1)

pub close_spec : {M : Type 1} → statement M
close_spec = tie.close (tie.spec
    clear-requires
    propagate-requires
    answer-of-requires
    same_length
    returns)
