-- `agreement::states::codes`: the target is a part of a local array, as long as the state to compare with.
use mathlib.Core.Path.{sym}
use native.Mathlib.Omega.{arith}
use lib.Seq.{length-take-le}
use borrow.Author.Rules.{rules}
use Rattle.agreement.proofs.states.codes.Statement.{statement}
use Rattle.agreement.proofs.states.codes.Tie as tie

-- the room, and the start
abbrev given : tie.After-values-room → tie.After-shared_slice_known-1
given c = c.before.before.before

abbrev start : tie.After-values-room → tie.Start
start c = (given c).before

values-requires : tie.Need-values-room-requires
values-requires c κs = search rules

array-borrow-prefix-room : tie.Need-slice_bounds-room-end
array-borrow-prefix-room c = search rules

slice-aggregate-codes-in : tie.Need-slice_bounds-codes_in-end
slice-aggregate-codes-in c = sym (length-take-le _ c.values-room.result (omega (arith, (start c.before).requires)))

codes-in-requires : tie.Need-codes_in-requires
codes-in-requires c κs = length-take-le _ c.values-room.result (omega (arith, (start c.before).requires))

returns : tie.Need-returns
returns c = search rules

pub codes_spec : {M : Type 1} → statement M
codes_spec =
    tie.close
    (tie.spec
    values-requires
    array-borrow-prefix-room
    slice-aggregate-codes-in
    codes-in-requires
    returns)
