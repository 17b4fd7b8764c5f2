-- `Under::judge_consistent`: the marks are kept in a local array, by which the rows are judged. Assumes nothing.
use Rattle.std.proofs.Common.{arith}
use Rattle.propagation.proofs.MarkedSets.{marked_room, room_size, most_bytes_lem}
use Rattle.judge.proofs.Closures.{closure_consistent, closure_copied}
use Rattle.judge.proofs.under.Under.judge_consistent.Goals as goal

pub copy-requires : goal.copy-requires
copy-requires c =
    let u = c.args.self.now in
    (u.given.few, marked_room _ _ _ c.requires.0.marked, omega (arith, c.room-base.ensures, room_size, most_bytes_lem u.atoms u.given.few))

pub flag_guaranteed-requires : goal.flag_guaranteed-requires
flag_guaranteed-requires c = (closure_consistent _ _ _ _ (closure_copied _ _ _ _ _ c.requires.0 c.copy.ensures), c.requires.2)

pub invariant_of-closed : goal.invariant_of-closed
invariant_of-closed c = record { closed = closure_copied _ _ _ _ _ c.requires.0 c.copy.ensures; flagged = c.flag_guaranteed.ensures }
