use mathlib.Core.Path.{refl}
use Rattle.definitions.specs.Marks.{mark_bytes}
use Rattle.propagation.proofs.marks.room.Statement.{statement}
use Rattle.propagation.proofs.marks.room.Tie as tie

returns : tie.Need-returns
unfolding mark_bytes
returns c = refl

pub room_spec : {M : Type 1} → statement M
room_spec = tie.close (tie.spec
    returns)
