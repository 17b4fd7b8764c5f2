-- `card::group::write_groups`: the lines of the groups from v on are left to be written.
use Rattle.std.proofs.Common.{◌-◌, get_or}
use Rattle.definitions.specs.Lists.{each, range}
use Rattle.writing.specs.Writing.{Writing}
use Rattle.card.specs.Text.{group_text, group_texts}
use Rattle.card.proofs.group.write_groups.Given as goal

abbrev pub invariant-loop-v : goal.invariant-loop-v
invariant-loop-v l =
    Writing l.fn.out l.at (group_texts l.places l.none l.count) l.out l.to
    (each (λ x. group_text l.places x (get_or l.none x 0)) (range l.v (l.count - l.v)))
