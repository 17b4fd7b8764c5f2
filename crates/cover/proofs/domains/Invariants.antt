-- The words of the domains before v are written, two each, and those from v on are left.
use Rattle.std.proofs.Common.{◌≡◌, ◌+◌, ◌*◌, ◌-◌}
use Rattle.definitions.specs.Lists.{each, range, below}
use Rattle.writing.specs.Writing.{Writing}
use Rattle.cover.specs.Domains.{domain_by}
use Rattle.cover.proofs.domains.Given as goal

abbrev pub invariant-loop-v : goal.invariant-loop-v
invariant-loop-v l =
    (l.to ≡ l.at + 2 * l.v)
    × Writing l.fn.target l.at (each (domain_by l.sizes l.none) (below l.count)) l.target l.to (each (domain_by l.sizes l.none) (range l.v (l.count - l.v)))
