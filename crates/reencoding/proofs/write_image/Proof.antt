-- `reencoding::write_image`: the directory, the cover and the other parts follow one another.
use Prim.Native.Nat.{ℕ, ◌+◌, ◌≤◌}
use mathlib.Core.Path.{◌≡◌, sym, ap, ap₂}
use mathlib.Core.List.{List, ◌++◌}
use native.Mathlib.Omega.{arith}
use lib.ListN.{length}
use Rattle.task.specs.Reads.{task_of}
use Rattle.writing.specs.Writing.{Writing}
use Rattle.writing.specs.Directory.{directory_of}
use Rattle.writing.proofs.Writes.{wrote_same, write_start, write_part, write_last, part_room, write_room}
use Rattle.cover.specs.Domains.{cover_words}
use Rattle.reencoding.specs.Parts.{lengths_of, task_by, image_by}
use Rattle.reencoding.proofs.PartLaws.{directory_given}
use borrow.Author.Rules.{rules}
use Rattle.reencoding.proofs.write_image.Statement.{statement}
use Rattle.reencoding.proofs.write_image.Tie as tie

-- the parts, each with what is left to be written at it
abbrev task : tie.Start → List ℕ
task s = let a = s.args in task_by (task_of a.image.now) a.places.now a.sizes.now a.count

abbrev groups : tie.Start → List ℕ
groups s = let a = s.args in cover_words a.places.now a.sizes.now a.none.now a.count

abbrev header : tie.Start → List ℕ
header s = let t = task_of s.args.image.now in directory_of s.args.count (length t.operators) (lengths_of s.args.count t)

abbrev whole : tie.Start → List ℕ
whole s = let a = s.args in image_by (task_of a.image.now) a.places.now a.sizes.now a.none.now a.count

abbrev Left : tie.Start → List ℕ → ℕ → List ℕ → Type 0
Left s target to left = Writing s.args.target.now 0 (whole s) target to left

first : (s : tie.Start) → Left s s.args.target.now 0 (header s ++ (groups s ++ task s))
unfolding image_by
first s = write_start

room : (s : tie.Start) → 0 + length (whole s) ≤ length s.args.target.now
room s = let p = s.requires.2 in omega arith

-- the number of operators is known
abbrev lent : tie.After-operators-operators → tie.After-shared_slice_known-4-1
lent c = c.before.before.before

abbrev shared : tie.After-operators-operators → tie.After-shared_slice_known-1
shared c = (lent c).before.before.before

abbrev start : tie.After-operators-operators → tie.Start
start c = (shared c).before

-- the directory is that of the image
directory_is : (c : tie.After-operators-operators) → let s = start c in header s ≡ directory_of s.args.count c.operators-operators.result s.args.lengths.now
directory_is c = sym (ap₂ (directory_of (start c).args.count) c.operators-operators.ensures.0 (start c).requires.1.lengths)

-- after the directory
abbrev counted : tie.After-directory-variables → tie.After-operators-operators
counted c = c.before.before

abbrev begun : tie.After-directory-variables → tie.Start
begun c = start (counted c)

second : (c : tie.After-directory-variables) → Left (begun c) c.directory-variables.new.target c.directory-variables.result (groups (begun c) ++ task (begun c))
second c = write_part (first (begun c)) (wrote_same (directory_is (counted c)) c.directory-variables.ensures)

-- after the cover
abbrev back : tie.After-write-values → tie.After-slice_known-2-1
back c = c.before.before

abbrev headed : tie.After-write-values → tie.After-directory-variables
headed c = (back c).before.before

third : (c : tie.After-write-values) → Left (begun (headed c)) c.write-values.new.target c.write-values.result (task (begun (headed c)))
third c = write_part (second (headed c)) c.write-values.ensures

abbrev covered : tie.After-write_parts-arg-1 → tie.After-write-values
covered c = c.before.before.before

operators-requires : tie.Need-operators-operators-requires
operators-requires c κs = search rules

directory-requires : tie.Need-directory-variables-requires
directory-requires c κs =
    let d = c.before in
    let s = start d in
    let m = s.requires.1 in
    let fits = part_room (header s) _ (first s) (room s) in
    let size = ap length (directory_is d) in
    directory_given _ s.requires.0 _ m.laid.valued.few _ _ _ d.operators-operators.ensures.0 m.lengths (omega arith)

write-requires : tie.Need-write-values-requires
write-requires c κs =
    let d = c.before.before.before in
    let s = begun d in
    (s.requires.1.laid.domained, part_room (groups s) _ (second d) (room s))

write-parts-requires : tie.Need-write_parts-requires
write-parts-requires c κs =
    let d = covered c in
    let s = begun (headed d) in
    (s.requires.0, s.requires.1.laid.valued, write_room (third d) (room s))

same_length : tie.Need-shape_of-target
same_length c = search rules

returns : tie.Need-returns
returns c =
    let w = c.before.before in
    write_last (third (covered w.before)) w.write_parts.ensures

pub write_image_spec : {M : Type 1} → statement M
write_image_spec =
    tie.close (tie.spec
    operators-requires
    directory-requires
    write-requires
    write-parts-requires
    same_length
    returns)
