use mathlib.Core.Path.{◌≡◌}
use mathlib.Core.List.{◌++◌}
use Rattle.definitions.specs.Text.{decimal}
use Rattle.writing.proofs.Writes.{wrote_same, wrote_both, wrote_nothing, first_room, next_room}
use Rattle.text.specs.Fields.{separator}
use Rattle.card.specs.Text.{member_text}
use Rattle.card.proofs.LineLaws.{member_not, member_there}
use borrow.Author.Rules.{rules}
use Rattle.card.proofs.group.write_member.Statement.{statement}
use Rattle.card.proofs.group.write_member.Tie as tie

-- the atom's variable is read
abbrev lent : tie.After-wide-variable → tie.After-shared_slice_known-1
lent c = c.before.before

abbrev start : tie.After-wide-variable → tie.Start
start c = (lent c).before.before

-- its value is read
abbrev variable : tie.After-wide-value → tie.After-wide-variable
variable c = c.before.before.before

abbrev begun : tie.After-wide-value → tie.Start
begun c = start (variable c)

parts :
    (c : tie.After-wide-value) → let a = (begun c).args in
    member_text a.places.now a.v a.a ≡ separator c.wide-value.result ++ decimal a.a
parts c =
    let a = (begun c).args in
    let x = (variable c).wide-variable in
    member_there a.places.now a.v a.a x.result x.ensures.0 c.wide-value.result c.wide-value.ensures.0 c.if-variable-v.false

-- what stands before the atom is written
abbrev value : tie.After-separate-to → tie.After-wide-value
value c = c.before.before

abbrev separated : tie.After-write_decimal-arg-1 → tie.After-separate-to
separated c = c.before.before.before

mul_wide : tie.Need-overflow_mul-a
mul_wide c = search rules

mul-wide-2 : tie.Need-offset_bounds-places-a
mul-wide-2 c = search rules

shared-slice-read-wide : tie.Need-bounds-places-a
shared-slice-read-wide c = search rules

wide-requires : tie.Need-wide-variable-requires
wide-requires c κs = search rules

returns : tie.Need-returns-then-variable-v
returns c =
    let w = c.before in
    let a = (start w).args in
    wrote_nothing (member_not a.places.now a.v a.a w.wide-variable.result w.wide-variable.ensures.0 c.if-variable-v.true)

mul-wide-3 : tie.Need-overflow_mul-a-2
mul-wide-3 c = search rules

add_wide : tie.Need-overflow_add-a
add_wide c = search rules

mul-wide-4 : tie.Need-offset_bounds-places-a-2
mul-wide-4 c = search rules

shared-slice-read-wide-2 : tie.Need-bounds-places-a-2
shared-slice-read-wide-2 c = search rules

wide-requires-2 : tie.Need-wide-value-requires
wide-requires-2 c κs = search rules

separate-requires : tie.Need-separate-to-requires
separate-requires c κs =
    let d = c.before in
    let a = (begun d).args in
    first_room _ (separator d.wide-value.result) (decimal a.a) a.out.now a.at (parts d) (begun d).requires.1

write-decimal-requires : tie.Need-write_decimal-requires
write-decimal-requires c κs =
    let s = separated c in
    let d = value s in
    let a = (begun d).args in
    next_room _ (separator d.wide-value.result) (decimal a.a) a.out.now a.at (parts d) (begun d).requires.1 s.separate-to.ensures

same_length : tie.Need-shape_of-out
same_length c = search rules

returns-2 : tie.Need-returns
returns-2 c =
    let w = c.before.before in
    let s = separated w.before in
    wrote_same (parts (value s)) (wrote_both s.separate-to.ensures w.write_decimal.ensures)

pub write_member_spec : {M : Type 1} → statement M
write_member_spec =
    tie.close
    (tie.spec
    mul_wide
    mul-wide-2
    shared-slice-read-wide
    wide-requires
    returns
    mul-wide-3
    add_wide
    mul-wide-4
    shared-slice-read-wide-2
    wide-requires-2
    separate-requires
    write-decimal-requires
    same_length
    returns-2)
