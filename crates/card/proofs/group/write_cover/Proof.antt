use mathlib.Core.Path.{◌≡◌, refl}
use mathlib.Core.List.{◌++◌}
use Rattle.writing.proofs.Writes.{wrote_same, wrote_both, first_room, next_room}
use Rattle.card.specs.Text.{groups_line, group_texts, cover_text}
use borrow.Author.Rules.{rules}
use Rattle.card.proofs.group.write_cover.Statement.{statement}
use Rattle.card.proofs.group.write_cover.Tie as tie

parts :
    (s : tie.Start) → let a = s.args in
    cover_text a.places.now a.none.now a.count ≡ groups_line a.count ++ group_texts a.places.now a.none.now a.count
unfolding cover_text
parts s = refl

-- after the line of the number of groups
abbrev lent : tie.After-write_count-to → tie.After-shared_slice_known-1
lent c = c.before.before.before

abbrev start : tie.After-write_count-to → tie.Start
start c = (lent c).before.before

abbrev counted : tie.After-write_groups-arg-1 → tie.After-write_count-to
counted c = c.before.before.before

write-count-requires : tie.Need-write_count-to-requires
write-count-requires c κs =
    let d = c.before.before in
    let s = d.before.before in
    let a = s.args in
    first_room _ (groups_line a.count) (group_texts a.places.now a.none.now a.count) a.out.now a.at (parts s) s.requires.1

write-groups-requires : tie.Need-write_groups-requires
write-groups-requires c κs =
    let d = counted c in
    let s = start d in
    let a = s.args in
    let rest = group_texts a.places.now a.none.now a.count in
    (s.requires.0, next_room _ (groups_line a.count) rest a.out.now a.at (parts s) s.requires.1 d.write_count-to.ensures)

same_length : tie.Need-shape_of-out
same_length c = search rules

returns : tie.Need-returns
returns c =
    let w = c.before.before in
    let d = counted w.before in
    wrote_same (parts (start d)) (wrote_both d.write_count-to.ensures w.write_groups.ensures)

pub write_cover_spec : {M : Type 1} → statement M
write_cover_spec =
    tie.close (tie.spec
    write-count-requires
    write-groups-requires
    same_length
    returns)
