-- `propagation::extend`: the marks of the atoms stand for a closure, and those of the closure of both lists are set.
use mathlib.Core.Path.{sym, subst}
use mathlib.Core.List.{◌++◌}
use Rattle.clause.specs.Rows.{clauses_of}
use Rattle.propagation.specs.declared.Closing.{Closing}
use Rattle.propagation.specs.Marks.{Closes}
use Rattle.propagation.proofs.Closed.{ready_marks, extend_done}
use borrow.Author.Rules.{rules}
use Rattle.propagation.proofs.extend.Statement.{statement}
use Rattle.propagation.proofs.extend.Tie as tie

-- where the marks are lent: the start
abbrev known : tie.After-propagate-arg-1 → tie.After-shared_slice_known-2-1
known c = c.before.before

abbrev start : tie.After-propagate-arg-1 → tie.Start
start c = (known c).before.before

propagate-requires : tie.Need-propagate-requires
propagate-requires c κs =
    let p = (start c).requires in
    (ready_marks _ _ _ _ _ p.0 p.1.marked p.1.consistent, p.0.below)

answer-of-requires : tie.Need-answer_of-requires
answer-of-requires c κs = search rules

same_length : tie.Need-shape_of-marks
same_length c = search rules

returns : tie.Need-returns
returns c = λ ls m.
    let q = c.before.before.before in
    let s = start q.before in
    let a = s.args in
    let r = q.propagate in
    subst (λ (x : Closing). Closes a.atoms (clauses_of a.clauses.now) (ls ++ a.literals.now) r.new.marks x) (sym c.answer_of.ensures)
    (extend_done _ _ ls _ _ _ r.result s.requires.0 r.ensures.0 m r.ensures.1)

pub extend_spec : {M : Type 1} → statement M
extend_spec = tie.close (tie.spec
    propagate-requires
    answer-of-requires
    same_length
    returns)
