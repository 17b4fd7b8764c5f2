-- `writing::directory::directory`: the two numbers, and the pairs of parts that begin right after the pairs.
use native.Mathlib.Omega.{arith}
use Rattle.writing.specs.Directory.{directory_of, size_of}
use Rattle.writing.proofs.Writes.{wrote_both, wrote_size}
use borrow.Author.Rules.{rules}
use Rattle.writing.proofs.directory.directory.Statement.{statement}
use Rattle.writing.proofs.directory.directory.Tie as tie

-- the two numbers are written
abbrev numbers : tie.After-pairs-arg-1 → tie.After-pair-at
numbers c = c.before.before.before

abbrev lent : tie.After-pair-at → tie.After-slice_known-1
lent c = c.before.before

abbrev start : tie.After-pair-at → tie.Start
start c = (lent c).before.before

pair-requires : tie.Need-pair-at-requires
pair-requires c κs = search rules

mul-pairs : tie.Need-overflow_mul-lengths
mul-pairs c = search rules

add-pairs : tie.Need-overflow_add-lengths
add-pairs c = search rules

pairs-requires : tie.Need-pairs-requires
unfolding size_of
pairs-requires c κs =
    let d = numbers c in
    let s = (start d).requires in
    let small = s.offsets in
    let room = s.room in
    let size = wrote_size d.pair-at.ensures in
    let end = d.pair-at.ensures.next in
    (omega arith, omega arith)

same_length : tie.Need-shape_of-target
same_length c = search rules

returns : tie.Need-returns
unfolding directory_of
returns c =
    let p = c.before.before in
    wrote_both (numbers p.before).pair-at.ensures p.pairs.ensures

pub directory_spec : {M : Type 1} → statement M
directory_spec = tie.close (tie.spec
    pair-requires
    mul-pairs
    add-pairs
    pairs-requires
    same_length
    returns)
