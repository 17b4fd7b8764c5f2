-- `next_set::copy_unflagged`: a row that has no flag is copied.
use mathlib.Core.List.{[], ◌∷◌}
use native.Mathlib.Omega.{arith}
use lib.ListN.{length-append}
use Rattle.definitions.specs.Clauses.{width}
use Rattle.clause.proofs.RowWalks.{numbered_start, numbered_end, numbered_is, numbered_row, numbered_inside, numbered_on}
use Rattle.next_set.proofs.Copying.{copying_start, copying_skip, copying_row, copying_end}
use Rattle.next_set.proofs.copy_unflagged.Goals as goal

pub loop-i-init : goal.loop-i-init
unfolding width
loop-i-init c =
    let rows = c.chunks_exact.ensures in
    let numbers = c.enumerate-i-items.ensures in
    record {
      rows = rw c.into_iter-i-iterator.ensures.into_iter_gives (numbered_start numbers.source numbers.count rows.size rows.rest);
      copying = copying_start _ _ _;
    }

pub bounds-flags-i : goal.bounds-flags-i
bounds-flags-i c =
    let w = c.loop-i.invariant.rows in
    let i = c.in-Some.i in
    let row = c.in-Some.row in
    let step = c.in-Some.ensures.steps in
    omega (arith, numbered_is w i row c.next.new.self step, numbered_inside w i row c.next.new.self step, c.requires.0)

pub loop-i-preserved-then-flags-i-ne1 : goal.loop-i-preserved-then-flags-i-ne1
loop-i-preserved-then-flags-i-ne1 c =
    let l = c.loop-i in
    let w = l.invariant.rows in
    let i = c.in-Some.i in
    let row = c.in-Some.row in
    let step = c.in-Some.ensures.steps in
    let inside = numbered_inside w i row c.next.new.self step in
    rw (length-append l.yielded ((i, row) ∷ []))
    record {
      rows = numbered_on w i row c.next.new.self step;
      copying = copying_row _ _ l.invariant.copying inside c.requires.1 (rw (numbered_is w i row c.next.new.self step) at c.if-flags-i-ne1.true) _ _ _
          (numbered_row w i row c.next.new.self step) c.words-to.auto.target c.words-to.ensures;
    }

pub loop-i-preserved : goal.loop-i-preserved
loop-i-preserved c =
    let l = c.loop-i in
    let w = l.invariant.rows in
    let i = c.in-Some.i in
    let row = c.in-Some.row in
    let step = c.in-Some.ensures.steps in
    rw (length-append l.yielded ((i, row) ∷ []))
    record {
      rows = numbered_on w i row c.next.new.self step;
      copying = copying_skip _ _ l.invariant.copying (numbered_inside w i row c.next.new.self step)
          (rw (numbered_is w i row c.next.new.self step) at c.if-flags-i-ne1.false);
    }

pub returns : goal.returns
unfolding width
returns c =
    let l = c.loop-i in
    copying_end _ _ l.invariant.copying c.requires.1 (numbered_end l.invariant.rows c.next.new.self c.in-None.ensures.steps)
