-- Each operator lowers the place of the lowest clause that fails, or leaves it.
use Rattle.std.proofs.Common.{◌∙◌, ◌≤◌, sym, length, arith}
use Rattle.clause.proofs.RowLaws.{clauses_length}
use Rattle.checker.proofs.Searching.{first_lent, search_begins, operator_same, operator_lower, search_ends, search_kept, search_failed}
use Rattle.checker.proofs.check_kept.Goals as goal
use Rattle.checker.proofs.check_kept.Goals.{then-first-low, else-first-low}

pub loop-operator-init : goal.loop-operator-init
loop-operator-init c =
    let e = c.rows-count.ensures ∙ sym (clauses_length c.args.clauses.now) in record { counted = e; searched = search_begins _ _ _ e }

pub loop-operator-preserved : goal.loop-operator-preserved
loop-operator-preserved c =
    let i = c.loop-operator.invariant in
    let room : c.loop-operator.low ≤ length c.loop-operator.fails =
    omega (arith, i.searched.inside, c.requires.2, c.loop-operator.auto.fails, clauses_length c.args.clauses.now) in
    let first = first_lent _ _ _ _ _ _ c.loop-operator.fails room c.first_failing-first.ensures in
    record {
      counted = i.counted;
      searched = elim c.if-first-low.branch [
        | then-first-low w ↦ rw (w.low-is, w.under-is) (operator_lower _ _ _ _ _ _ _ c.requires.0.counted i.searched first
            (omega (arith, c.operators-operator-end.ensures.0, c.loop-operator-test.true)) w.if-first-low.true)
        | else-first-low w ↦ rw (w.low-is, w.under-is) (operator_same _ _ _ _ _ _ _ c.requires.0.counted i.searched first w.if-first-low.false)
      ];
    }

pub returns-then-low-count : goal.returns-then-low-count
returns-then-low-count c =
    let s = search_ends _ _ _ _ _ (omega (arith, c.operators-operator-end.ensures.0, c.loop-operator-test.false)) c.loop-operator.invariant.searched in
    sym (search_failed _ _ _ _ s (omega (arith, c.loop-operator.invariant.counted, c.if-low-count.true)))

pub returns : goal.returns
returns c =
    let s = search_ends _ _ _ _ _ (omega (arith, c.operators-operator-end.ensures.0, c.loop-operator-test.false)) c.loop-operator.invariant.searched in
    sym (search_kept _ _ _ _ s (omega (arith, c.loop-operator.invariant.counted, c.if-low-count.false)))
