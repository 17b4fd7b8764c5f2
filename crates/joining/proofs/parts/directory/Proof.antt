-- `joining::parts::directory`: the numbers of both added, and the pairs by the lengths.
use Prim.Native.Nat.{◌+◌}
use native.Mathlib.Omega.{arith}
use mathlib.Core.Path.{◌≡◌}
use lib.ListN.{length}
use Rattle.task.specs.Reads.{task_of}
use Rattle.writing.proofs.Writes.{wrote_same}
use Rattle.joining.proofs.PartLaws.{header_is, header_given}
use borrow.Author.Rules.{rules}
use Rattle.joining.proofs.parts.directory.Statement.{statement}
use Rattle.joining.proofs.parts.directory.Tie as tie

-- the start, from where the numbers are known
abbrev atoms : tie.After-operators-2 → tie.After-atoms
atoms c = c.before.before.before

abbrev slices : tie.After-operators-2 → tie.After-shared_slice_known-2-1
slices c = (atoms c).before.before.before

abbrev start : tie.After-operators-2 → tie.Start
start c = (slices c).before.before

atoms_are :
    (c : tie.After-operators-2) → let s = (start c).args in
    (atoms c).atoms.result + c.atoms-2.result ≡ (task_of s.left.now).atoms + (task_of s.right.now).atoms
atoms_are c = omega (arith, (atoms c).atoms.ensures.0, c.atoms-2.ensures.0)

operators_are :
    (c : tie.After-operators-2) → let s = (start c).args in
    c.operators.result + c.operators-2.result
    ≡ length (task_of s.left.now).operators + length (task_of s.right.now).operators
operators_are c = omega (arith, c.operators.ensures.0, c.operators-2.ensures.0)

atoms-requires : tie.Need-atoms-requires
atoms-requires c κs = search rules

atoms-requires-2 : tie.Need-atoms-requires-2
atoms-requires-2 c κs = search rules

add-atoms : tie.Need-overflow_add-atoms
add-atoms c = search rules

operators-requires : tie.Need-operators-requires
operators-requires c κs = search rules

operators-requires-2 : tie.Need-operators-requires-2
operators-requires-2 c κs = search rules

add-operators : tie.Need-overflow_add-operators
add-operators c = search rules

directory-requires : tie.Need-directory-requires
directory-requires c κs =
    let d = c.before in
    let s = start d in
    header_given _ _ _ _ _ (atoms_are d) (operators_are d) s.requires.1 s.requires.0

same_length : tie.Need-shape_of-target
same_length c = search rules

returns : tie.Need-returns
returns c =
    let w = c.before.before in
    let d = w.before.before in
    wrote_same (header_is _ _ _ _ _ (atoms_are d) (operators_are d) (start d).requires.1) w.directory.ensures

pub directory_spec : {M : Type 1} → statement M
directory_spec =
    tie.close
    (tie.spec
    atoms-requires
    atoms-requires-2
    add-atoms
    operators-requires
    operators-requires-2
    add-operators
    directory-requires
    same_length
    returns)
