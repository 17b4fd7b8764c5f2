-- `joining::shift::lists`: one list after the other.
use Prim.Native.Nat.{◌+◌, ◌≤◌}
use native.Mathlib.Omega.{arith}
use lib.ListN.{length}
use Rattle.writing.proofs.Writes.{wrote_both}
use Rattle.joining.proofs.ShiftLaws.{list_long}
use borrow.Author.Rules.{rules}
use Rattle.joining.proofs.shift.lists.Statement.{statement}
use Rattle.joining.proofs.shift.lists.Tie as tie

-- the start, from where the first list is written
abbrev lent : tie.After-words-arg-1 → tie.After-shared_slice_known-1
lent c = c.before.before.before

abbrev start : tie.After-words-arg-1 → tie.Start
start c = (lent c).before

room : (c : tie.After-words-arg-1) → let a = (start c).args in a.at + (length a.first.now + length a.second.now) ≤ length a.target.now
room c = let a = (start c).args in omega (arith, (start c).requires.1, list_long a.by a.first.now a.second.now)

-- where the first list is written
abbrev first : tie.After-numbers-arg-1 → tie.After-words-to
first c = c.before.before.before

words-requires : tie.Need-words-to-requires
words-requires c κs = omega (arith, room c)

numbers-requires : tie.Need-numbers-requires
numbers-requires c κs =
    let w = first c in
    ((start w.before).requires.0, omega (arith, room w.before, w.words-to.ensures.next, w.words-to.auto.target))

same_length : tie.Need-shape_of-target
same_length c = search rules

returns : tie.Need-returns
returns c = let n = c.before.before in wrote_both (first n.before).words-to.ensures n.numbers.ensures

pub lists_spec : {M : Type 1} → statement M
lists_spec = tie.close (tie.spec
    words-requires
    numbers-requires
    same_length
    returns)
