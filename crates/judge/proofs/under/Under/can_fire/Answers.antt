-- `Under::can_fire`: conditions that lie in the closure add nothing to it; for others the closure with them decides.
use Rattle.std.proofs.Common.{sym, arith}
use Rattle.judge.proofs.Closures.{closure_fires, consistent_copied}
use Rattle.judge.proofs.Firing.{fires_consistent, fires_not}
use Rattle.judge.proofs.under.Under.can_fire.Goals as goal

pub returns-then-holds_all : goal.returns-then-holds_all
returns-then-holds_all c = λ ls closed.
    let p = c.requires.0 in
    closure_fires _ _ ls _ p.rows _ (sym (c.if-holds_all.ensures _ _ closed.marked p.below)) closed

pub extend-requires : goal.extend-requires
extend-requires c =
    let p = c.requires.0 in (
      record { few = p.few; room = omega (arith, p.room, c.copy.auto.to); rows = p.rows; below = p.below },
      consistent_copied _ _ _ c.requires.1 c.copy.ensures,
    )

pub returns-in-Consistent : goal.returns-in-Consistent
returns-in-Consistent c = λ ls closed. fires_consistent _ _ ls _ (c.in-Consistent.ensures ls (c.copy.ensures _ closed.marked)).0

pub returns-in_default : goal.returns-in_default
returns-in_default c = λ ls closed. fires_not _ _ ls _ (c.in_default.ensures ls (c.copy.ensures _ closed.marked))
