-- `card::group::write_group`: the atoms from a on are left to be written, and the end of the line.
use Rattle.std.proofs.Common.{[], ◌∷◌, ◌++◌, ◌-◌, ◌/◌, length}
use Rattle.definitions.specs.Lists.{each, range}
use Rattle.writing.specs.Writing.{Writing}
use Rattle.card.specs.Text.{member_text, none_text, group_text}
use Rattle.card.proofs.group.write_group.Given as goal

abbrev pub invariant-loop-a : goal.invariant-loop-a
invariant-loop-a l =
    Writing l.fn.out l.at (group_text l.places l.v l.none) l.out l.to
    (each (member_text l.places l.v) (range l.a (length l.places / 2 - l.a)) ++ (none_text l.none ++ (10 ∷ [])))
