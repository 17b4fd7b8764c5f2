-- `Closed::judge_row`: by the closure with the row's conditions, which is the base closure where that holds them. Assumes nothing.
use Rattle.std.proofs.Common.{sym, ap, ◌∙◌, arith}
use Rattle.clause.specs.Rows.{clauses_of}
use Rattle.judge.specs.Judging.{lacks_flag, flag_more}
use Rattle.judge.proofs.Closures.{within_rows, closure_consistent, closure_says, closure_copied, closure_with}
use Rattle.judge.proofs.RowWalk.{judged_low, row_contradictory, row_judged}
use Rattle.judge.proofs.under.Closed.judge_row.Goals as goal

pub returns-then-holds_all : goal.returns-then-holds_all
returns-then-holds_all c = λ e el there.
    let s = c.args.self.now in
    let u = s.under.now in
    let below = c.requires.0.below in
    let closed = closure_with _ _ _ _ u.given.rows _ (sym (c.if-holds_all.ensures _ _ s.closed.marked below)) s.closed in
    row_judged _ _ _ _ e _ _ (within_rows u.given.rows) below (judged_low _ _ u.right) closed.consistent _ _ el there
    (c.flag_lacking.ensures ∙ ap (λ G. flag_more (lacks_flag c.args.l G) (clauses_of u.judged.now) c.args.fails.now) (s.flagged _ closed))

pub extend-requires : goal.extend-requires
extend-requires c =
    let p = c.requires.0 in (
      record { few = p.few; room = omega (arith, p.room, c.copy.auto.to); rows = p.rows; below = p.below },
      closure_consistent _ _ _ _ (closure_copied _ _ _ _ _ c.args.self.now.closed c.copy.ensures),
    )

pub flag_violated-requires : goal.flag_violated-requires
flag_violated-requires c =
    let closed = closure_says _ _ _ _ (c.in-Consistent.ensures _ (c.copy.ensures _ c.args.self.now.closed.marked)) in
    (closure_consistent _ _ _ _ closed, c.requires.1)

pub returns-in-Consistent : goal.returns-in-Consistent
returns-in-Consistent c = λ e el there.
    let s = c.args.self.now in
    let u = s.under.now in
    let closed = closure_says _ _ _ _ (c.in-Consistent.ensures _ (c.copy.ensures _ s.closed.marked)) in
    row_judged _ _ _ _ e _ _ (within_rows u.given.rows) c.requires.0.below (judged_low _ _ u.right) closed.consistent _ _ el there
    (c.flag_violated.ensures _ closed)

pub returns-in_default : goal.returns-in_default
returns-in_default c = λ e el there. row_contradictory _ _ _ _ e _ _ (c.in_default.ensures _ (c.copy.ensures _ c.args.self.now.closed.marked))
