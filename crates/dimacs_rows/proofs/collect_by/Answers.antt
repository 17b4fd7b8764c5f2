-- `dimacs_rows::collect_by`: clause by clause (`Collecting`).
use Rattle.std.proofs.Common.{◌≡◌, ◌∙◌, sym, subst, Option, Result, ℕ, List, arith}
use Rattle.std.proofs.lemmas.Result.{err_from_is_err_and}
use Rattle.dimacs_rows.specs.declared.Unread.{Unread}
use Rattle.dimacs_rows.specs.Reading.{RowRead, ClauseRead}
use Rattle.dimacs_rows.specs.Collected.{ClausesCollected}
use Rattle.dimacs_rows.proofs.CollectLaws.{collecting_start, unread_is, row_right_lem, collecting_next, collecting_unfit, collecting_end}
use Rattle.dimacs_rows.proofs.collect_by.Goals as goal

-- what was read of a clause, by the answer
read_as : (text : List ℕ) (at : ℕ) (row : List ℕ) {a b : Option ℕ} → a ≡ b → ClauseRead text at row a → ClauseRead text at row b
read_as text at row e h = subst (λ (z : Option ℕ). ClauseRead text at row z) e h

pub loop-at-init : goal.loop-at-init
loop-at-init c = collecting_start _ _ _ c.requires.0

pub returns-in_err-next : goal.returns-in_err-next
returns-in_err-next c =
    let p = err_from_is_err_and c.from_residual.result c.from_residual.ensures.1 in
    let l = c.loop-at in
    rw (p.1, p.2, unread_is c.read_clause.result c.in_err-next.ensures.value)
    (collecting_unfit _ _ _ _ _ l.invariant (read_as c.args.text.now l.at c.read_clause.new.row c.in_err-next.ensures.ok_part c.read_clause.ensures))

pub store-stored-requires : goal.store-stored-requires
store-stored-requires c =
    let b = c.requires.2 in
    let l = c.loop-at in
    let text = c.args.text.now in
    let row = c.read_clause.new.row in (
      row_right_lem text l.at row _ (read_as text l.at row c.in_ok-next.ensures.ok_part c.read_clause.ensures),
      record { rows = l.auto.rows ∙ b.rows; work = l.auto.work ∙ b.work },
      l.invariant.fit,
    )

pub loop-at-smaller : goal.loop-at-smaller
loop-at-smaller c =
    let text = c.args.text.now in
    let at = c.loop-at.at in
    let row = c.read_clause.new.row in
    let r : RowRead text at row c.in_ok-next.next = read_as text at row c.in_ok-next.ensures.ok_part c.read_clause.ensures in
    let later = r.later in
    let inside = r.behind.place.inside in
    omega arith

pub loop-at-preserved : goal.loop-at-preserved
loop-at-preserved c =
    let text = c.args.text.now in
    let l = c.loop-at in
    let row = c.read_clause.new.row in
    collecting_next text l.at row _ (read_as text l.at row c.in_ok-next.ensures.ok_part c.read_clause.ensures)
    c.args.from l.rows l.stored l.invariant _ _ c.store-stored.ensures

pub returns : goal.returns
returns c =
    subst (λ (r : Result ℕ Unread). ClausesCollected c.args.text.now c.args.from c.finish.new.rows r) (sym c.ok_or-2.ensures.value)
    (collecting_end _ _ _ _ _ c.loop-at.invariant c.finish.new.rows _ c.loop-at-test.false c.finish.ensures)
