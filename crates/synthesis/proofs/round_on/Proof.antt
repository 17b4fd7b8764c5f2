-- `synthesis::round_on`: with room for the flags. Assumes nothing.
use Prim.Native.Nat.{ℕ, ◌≤◌}
use mathlib.Core.List.{List}
use mathlib.Core.Path.{◌≡◌, sym, ◌∙◌}
use lib.ListN.{length, take}
use lib.Seq.{length-take-le}
use Rattle.definitions.specs.Clauses.{most_rows}
use Rattle.clause.specs.Rows.{row_count}
use Rattle.synthesis.specs.Rounds.{Ready}
use Rattle.synthesis.proofs.Rounds.{few_flags}
use borrow.Author.Rules.{rules}
use Rattle.synthesis.proofs.round_on.Statement.{statement}
use Rattle.synthesis.proofs.round_on.Tie as tie

-- where the rows are counted: the rooms made before it, the start
abbrev sized : Type 0
sized = tie.After-rows-size

abbrev room_2 : sized → tie.After-flags_room-failing
room_2 d = d.before.before

abbrev room_1 : sized → tie.After-flags_room-fails
room_1 d = (room_2 d).before

abbrev known : sized → tie.After-shared_slice_known-2-1
known d = (room_1 d).before.before.before

abbrev start : sized → tie.Start
start d = (known d).before.before

-- a room has a flag for each row
fits : (d : sized) (room : List ℕ) → length room ≡ most_rows → d.rows-size.result ≤ length room
fits d room e =
    let a = (start d).args in
    few_flags a.image.now a.clauses.now a.atoms a.n a.rows (start d).requires.round d.rows-size.result d.rows-size.ensures room e

flags : (d : sized) (room : List ℕ) → length room ≡ most_rows → length (take d.rows-size.result room) ≡ d.rows-size.result
flags d room e = length-take-le d.rows-size.result room (fits d room e)

-- where the flags are lent
abbrev sized_by : tie.After-failing-1 → sized
sized_by c = c.before.before.before

flags-room-requires : tie.Need-flags_room-fails-requires
flags-room-requires c κs = search rules

flags-room-requires-2 : tie.Need-flags_room-failing-requires
flags-room-requires-2 c κs = search rules

due-room-requires : tie.Need-due_room-due-requires
due-room-requires c κs = search rules

rows-requires : tie.Need-rows-size-requires
rows-requires c κs = search rules

array-borrow-prefix-fails : tie.Need-slice_bounds-fails-end
array-borrow-prefix-fails c =
    let r = (room_1 c.before).flags_room-fails in
    fits c.before r.result r.ensures

slice-aggregate-round-flagged : tie.Need-slice_bounds-round_flagged-end
slice-aggregate-round-flagged c =
    let d = c.before.before in
    let r = (room_1 d).flags_room-fails in
    sym (flags d r.result r.ensures)

array-borrow-prefix-failing : tie.Need-slice_bounds-failing-end
array-borrow-prefix-failing c =
    let d = c.before.before in
    let r = (room_2 d).flags_room-failing in
    fits d r.result r.ensures

slice-aggregate-round-flagged-2 : tie.Need-slice_bounds-round_flagged-end-2
slice-aggregate-round-flagged-2 c =
    let d = sized_by c in
    let r = (room_2 d).flags_room-failing in
    sym (flags d r.result r.ensures)

slice-aggregate-round-flagged-3 : tie.Need-slice_bounds-round_flagged-end-3
slice-aggregate-round-flagged-3 c = search rules

round-flagged-requires : tie.Need-round_flagged-requires
round-flagged-requires c κs =
    let d = sized_by c.before.before in
    let r = (room_1 d).flags_room-fails in
    let q = (room_2 d).flags_room-failing in
    let e = d.rows-size.ensures in
    ((start d).requires, flags d r.result r.ensures ∙ e, flags d q.result q.ensures ∙ e)

same_length : tie.Need-shape_of-marks
same_length c = search rules

same-length-2 : tie.Need-shape_of-work
same-length-2 c = search rules

returns : tie.Need-returns
returns c = search rules

pub round_on_spec : {M : Type 1} → statement M
round_on_spec =
    tie.close
    (tie.spec
    flags-room-requires
    flags-room-requires-2
    due-room-requires
    rows-requires
    array-borrow-prefix-fails
    slice-aggregate-round-flagged
    array-borrow-prefix-failing
    slice-aggregate-round-flagged-2
    slice-aggregate-round-flagged-3
    round-flagged-requires
    same_length
    same-length-2
    returns)
