-- `next_set::weaken::list_flagged`: a flagged literal is listed, another is not.
use native.Mathlib.Omega.{arith}
use Rattle.definitions.specs.Closure.{has}
use Rattle.definitions.specs.Lists.{keep}
use Rattle.definitions.proofs.Walks.{below_left}
use Rattle.next_set.proofs.Flags.{list_skip, list_take, list_end}
use Rattle.next_set.proofs.weaken.list_flagged.Goals as goal
use Rattle.next_set.proofs.weaken.list_flagged.Goals.{then-flag-eq1, else-flag-eq1}

pub loop-l-init : goal.loop-l-init
loop-l-init c = record { few = omega arith; words = below_left (keep (has c.args.flags.now)) _ }

pub loop-l-preserved : goal.loop-l-preserved
loop-l-preserved c =
    let l = c.loop-l in
    elim c.if-flag-eq1.branch [
      | then-flag-eq1 w ↦
          let words = list_take _ l.list l.count l.l l.invariant.words c.loop-l-test.true w.if-flag-eq1.true (omega arith) in
          record { few = omega arith; words = rw (w.count-is, w.list-is) words }
      | else-flag-eq1 w ↦
          let words = list_skip _ l.list l.count l.l l.invariant.words c.loop-l-test.true w.if-flag-eq1.false in
          record { few = omega arith; words = rw (w.count-is, w.list-is) words }
    ]

pub returns : goal.returns
returns c = let l = c.loop-l in list_end _ l.list l.count l.l l.invariant.words c.loop-l-test.false (omega arith)
