use Prim.Native.Nat.{ℕ, ◌+◌, ◌≤◌}
use native.Mathlib.Omega.{arith}
use mathlib.Core.Path.{◌≡◌}
use mathlib.Core.List.{List, ◌++◌}
use lib.ListN.{length}
use Rattle.definitions.specs.Card.{found_text}
use Rattle.clause.specs.Rows.{clauses_of}
use Rattle.writing.proofs.Writes.{wrote_same, wrote_both, first_room, next_room}
use Rattle.card.specs.Text.{set_text, cover_text, finding_of}
use Rattle.card.proofs.FoundText.{found_parts}
use borrow.Author.Rules.{rules}
use Rattle.card.proofs.found.write_covered.Statement.{statement}
use Rattle.card.proofs.found.write_covered.Tie as tie

-- after the atoms are grouped: the text is that of the set and that of the cover
abbrev arguments : tie.After-cover-count → tie.After-cover-arg-1
arguments c = c.before.before.before

abbrev lent : tie.After-cover-count → tie.After-slice_known-2-1
lent c = (arguments c).before.before.before

abbrev start : tie.After-cover-count → tie.Start
start c = (lent c).before.before.before

abbrev set : tie.After-cover-count → List ℕ
set c = set_text (clauses_of (start c).args.clauses.now) (start c).args.rounds

abbrev groups : tie.After-cover-count → List ℕ
groups c = let g = c.cover-count in cover_text g.new.places g.new.none g.result

abbrev whole : tie.After-cover-count → List ℕ
whole c = found_text (start c).args.atoms (finding_of (clauses_of (start c).args.clauses.now) (start c).args.rounds)

parts : (c : tie.After-cover-count) → whole c ≡ set c ++ groups c
parts c = found_parts _ _ _ _ _ _ (start c).args.rounds c.cover-count.ensures

room : (c : tie.After-cover-count) → 0 + length (whole c) ≤ length (start c).args.out.now
room c = let p = (start c).requires.2 in omega arith

abbrev sizes_back : tie.After-write_set-arg-1 → tie.After-slice_known-6-1
sizes_back c = c.before.before.before

abbrev back : tie.After-write_set-arg-1 → tie.After-slice_known-5-1
back c = (sizes_back c).before.before

abbrev covered : tie.After-write_set-arg-1 → tie.After-cover-count
covered c = (back c).before.before

-- after the text of the set
abbrev wrote : tie.After-write_cover-arg-1 → tie.After-write_set-to
wrote c = c.before.before.before

cover-requires : tie.Need-cover-count-requires
cover-requires c κs = search rules

write-set-requires : tie.Need-write_set-to-requires
write-set-requires c κs =
    let d = covered c in
    first_room (whole d) (set d) (groups d) (start d).args.out.now 0 (parts d) (room d)

write-cover-requires : tie.Need-write_cover-requires
write-cover-requires c κs =
    let w = wrote c in
    let d = covered w.before in
    let g = d.cover-count.ensures in
    let few = g.few in
    let count = g.grouped.few in
    let nones = g.nones in
    (omega arith, next_room (whole d) (set d) (groups d) (start d).args.out.now 0 (parts d) (room d) w.write_set-to.ensures)

same_length : tie.Need-shape_of-out
same_length c = search rules

same-length-2 : tie.Need-shape_of-places
same-length-2 c = search rules

same-length-3 : tie.Need-shape_of-sizes
same-length-3 c = search rules

same-length-4 : tie.Need-shape_of-none
same-length-4 c = search rules

returns : tie.Need-returns
returns c =
    let v = c.before.before in
    let w = wrote v.before in
    wrote_same (parts (covered w.before)) (wrote_both w.write_set-to.ensures v.write_cover.ensures)

pub write_covered_spec : {M : Type 1} → statement M
write_covered_spec =
    tie.close
    (tie.spec
    cover-requires
    write-set-requires
    write-cover-requires
    same_length
    same-length-2
    same-length-3
    same-length-4
    returns)
