use Rattle.std.proofs.Common.{◌≡◌, ◌≤◌, ◌-◌, ◌++◌, length, take}
use Rattle.definitions.specs.Closure.{has}
use Rattle.definitions.specs.Lists.{keep, range, below}
use Rattle.next_set.proofs.weaken.list_flagged.Given as goal

-- the flagged literals below `l` are listed
abbrev pub invariant-loop-l : goal.invariant-loop-l
invariant-loop-l l = record {
  few : l.count ≤ l.l;
  words : keep (has l.flags) (below (length l.flags)) ≡ take l.count l.list ++ keep (has l.flags) (range l.l (length l.flags - l.l));
}
