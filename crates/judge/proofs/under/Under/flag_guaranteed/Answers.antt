-- `Under::flag_guaranteed`: the walks one after the other.
use Rattle.std.proofs.Common.{arith}
use Rattle.propagation.proofs.MarkedSets.{room_size, most_bytes_lem}
use Rattle.judge.proofs.Guaranteed.{guaranteed_made}
use Rattle.judge.proofs.under.Under.flag_guaranteed.Goals as goal

pub drop_changed-requires : goal.drop_changed-requires
drop_changed-requires c =
    let u = c.args.self.now in
    (c.requires.0, omega (arith, c.room-work.ensures, room_size, most_bytes_lem u.atoms u.given.few))

pub returns : goal.returns
returns c = λ ls closed.
    let right = c.args.self.now.given.right in
    guaranteed_made _ _ _ ls _ _ _ _ (c.flag_marked.ensures _ closed.marked) (c.flag_effects.ensures _ _ right closed.marked)
    (c.drop_changed.ensures ls closed) (c.flag_effects-2.ensures _ _ right closed.marked)
