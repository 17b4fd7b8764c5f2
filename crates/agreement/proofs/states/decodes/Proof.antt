-- `agreement::states::decodes`: the target is a part of a local array, as long as the state to compare with.
use mathlib.Core.Path.{sym}
use native.Mathlib.Omega.{arith}
use lib.Seq.{length-take-le}
use borrow.Author.Rules.{rules}
use Rattle.agreement.proofs.states.decodes.Statement.{statement}
use Rattle.agreement.proofs.states.decodes.Tie as tie

-- the room, and the start
abbrev given : tie.After-state-room → tie.After-shared_slice_known-1
given c = c.before.before.before

abbrev start : tie.After-state-room → tie.Start
start c = (given c).before

state-requires : tie.Need-state-room-requires
state-requires c κs = search rules

array-borrow-prefix-room : tie.Need-slice_bounds-room-end
array-borrow-prefix-room c = search rules

slice-aggregate-decodes-in : tie.Need-slice_bounds-decodes_in-end
slice-aggregate-decodes-in c = sym (length-take-le _ c.state-room.result (omega (arith, (start c.before).requires)))

decodes-in-requires : tie.Need-decodes_in-requires
decodes-in-requires c κs = length-take-le _ c.state-room.result (omega (arith, (start c.before).requires))

returns : tie.Need-returns
returns c = search rules

pub decodes_spec : {M : Type 1} → statement M
decodes_spec =
    tie.close
    (tie.spec
    state-requires
    array-borrow-prefix-room
    slice-aggregate-decodes-in
    decodes-in-requires
    returns)
