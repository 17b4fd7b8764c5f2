-- `next_set::test::add_flags`: a flagged row's flag is added, and the number of its literals noted.
use mathlib.Core.Path.{sym, ◌∙◌, ap}
use mathlib.Core.List.{[], ◌∷◌}
use native.Mathlib.Omega.{arith}
use lib.ListN.{length, length-append}
use Rattle.definitions.specs.Clauses.{width, clause_of}
use Rattle.clause.specs.Rows.{clauses_of}
use Rattle.clause.proofs.RowLaws.{clauses_at_lem, clauses_length}
use Rattle.clause.proofs.RowWalks.{numbered_start, numbered_end, numbered_is, numbered_row, numbered_inside, numbered_on}
use Rattle.next_set.proofs.Noting.{adding_start, adding_pass, adding_put, adding_end}
use Rattle.next_set.proofs.test.add_flags.Goals as goal

pub loop-i-init : goal.loop-i-init
unfolding width
loop-i-init c =
    let rows = c.chunks_exact.ensures in
    let numbers = c.enumerate-i-items.ensures in
    record {
      rows = rw c.into_iter-i-iterator.ensures.into_iter_gives (numbered_start numbers.source numbers.count rows.size rows.rest);
      adding = λ p e. adding_start p _ _ _ _;
    }

pub bounds-flags-i : goal.bounds-flags-i
bounds-flags-i c =
    let w = c.loop-i.invariant.rows in
    let i = c.in-Some.i in
    let row = c.in-Some.row in
    let step = c.in-Some.ensures.steps in
    omega (arith, numbered_is w i row c.next.new.self step, numbered_inside w i row c.next.new.self step, c.requires.0)

pub loop-i-preserved-then-flags-i-eq1 : goal.loop-i-preserved-then-flags-i-eq1
loop-i-preserved-then-flags-i-eq1 c =
    let a = c.args in
    let l = c.loop-i in
    let w = l.invariant.rows in
    let i = c.in-Some.i in
    let row = c.in-Some.row in
    let step = c.in-Some.ensures.steps in
    let n = length l.yielded in
    let is = numbered_is w i row c.next.new.self step in
    let inside = numbered_inside w i row c.next.new.self step in
    let size = c.literals.ensures ∙ ap clause_of (numbered_row w i row c.next.new.self step) ∙ sym (clauses_at_lem a.clauses.now n inside) in
    rw (length-append l.yielded ((i, row) ∷ []), c.put.ensures, is)
    record {
      rows = numbered_on w i row c.next.new.self step;
      adding = λ q e.
          adding_put q (clauses_of a.clauses.now) a.at a.to.now l.to a.due.now l.due n (l.invariant.adding q e) a.flags.now e
          (omega (arith, inside, c.requires.0)) (c.requires.1 ∙ sym l.auto.to) (rw is at c.if-flags-i-eq1.true) _ (ap length size) l.auto.due;
    }

pub loop-i-preserved : goal.loop-i-preserved
loop-i-preserved c =
    let a = c.args in
    let l = c.loop-i in
    let w = l.invariant.rows in
    let i = c.in-Some.i in
    let row = c.in-Some.row in
    let step = c.in-Some.ensures.steps in
    let inside = numbered_inside w i row c.next.new.self step in
    rw (length-append l.yielded ((i, row) ∷ []))
    record {
      rows = numbered_on w i row c.next.new.self step;
      adding = λ q e.
          adding_pass q (clauses_of a.clauses.now) a.at a.to.now l.to a.due.now l.due (length l.yielded) (l.invariant.adding q e) a.flags.now e
          (omega (arith, inside, c.requires.0)) (c.requires.1 ∙ sym l.auto.to) (rw (numbered_is w i row c.next.new.self step) at c.if-flags-i-eq1.false);
    }

pub returns : goal.returns
returns c =
    let a = c.args in
    let l = c.loop-i in
    let past = numbered_end l.invariant.rows c.next.new.self c.in-None.ensures.steps in
    λ p e.
    adding_end p (clauses_of a.clauses.now) a.at a.to.now l.to a.due.now l.due (length l.yielded) (l.invariant.adding p e)
    (omega (arith, past, clauses_length a.clauses.now))
