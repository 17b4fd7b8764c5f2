-- `joining::parts::header`: the lengths are written into a local array, and the directory from its part that is filled.
use Prim.Native.Nat.{◌≤◌}
use native.Mathlib.Omega.{arith}
use mathlib.Core.Path.{◌≡◌, sym}
use lib.ListN.{length, take, length-replicate}
use lib.Seq.{length-take-le}
use Rattle.task.specs.Reads.{task_of}
use Rattle.writing.proofs.Writes.{wrote_size, wrote_taken}
use Rattle.joining.specs.Parts.{lengths_of}
use Rattle.joining.proofs.PartLaws.{lengths_few}
use borrow.Author.Rules.{rules}
use Rattle.joining.proofs.parts.header.Statement.{statement}
use Rattle.joining.proofs.parts.header.Tie as tie

-- the start, from where the buffer of lengths is lent
abbrev slices : tie.After-lengths-1 → tie.After-shared_slice_known-2-1
slices c = c.before.before

abbrev start : tie.After-lengths-1 → tie.Start
start c = (slices c).before.before

abbrev begun : tie.After-part_lengths-count → tie.Start
begun c = start c.before

slice-aggregate-part-lengths : tie.Need-slice_bounds-part_lengths-end
slice-aggregate-part-lengths c = search rules

part-lengths-requires : tie.Need-part_lengths-count-requires
part-lengths-requires c κs =
    let j = (start c).requires in
    (j.first, j.second, simp length-replicate (lengths_few j))

-- the lengths that were written
room : (c : tie.After-part_lengths-count) → c.part_lengths-count.result ≤ length c.part_lengths-count.new.lengths
room c =
    let w = c.part_lengths-count.ensures in
    omega (arith, lengths_few (begun c).requires, w.next, simp length-replicate at (wrote_size w))

lengths_are :
    (c : tie.After-part_lengths-count) → let s = (begun c).args in
    take c.part_lengths-count.result c.part_lengths-count.new.lengths ≡ lengths_of (task_of s.left.now) (task_of s.right.now)
lengths_are c = wrote_taken (simp length-replicate (lengths_few (begun c).requires)) c.part_lengths-count.ensures

array-share-prefix-lengths : tie.Need-slice_bounds-lengths-end
array-share-prefix-lengths c = room c.before

slice-aggregate-directory : tie.Need-slice_bounds-directory-end
slice-aggregate-directory c = let d = c.before.before in sym (length-take-le _ _ (room d))

directory-requires : tie.Need-directory-requires
directory-requires c κs = let d = c.before.before.before in ((begun d).requires, lengths_are d)

same_length : tie.Need-shape_of-target
same_length c = search rules

returns : tie.Need-returns
returns c = search rules

pub header_spec : {M : Type 1} → statement M
header_spec =
    tie.close
    (tie.spec
    slice-aggregate-part-lengths
    part-lengths-requires
    array-share-prefix-lengths
    slice-aggregate-directory
    directory-requires
    same_length
    returns)
