-- The flags before l are those of the set that the marks stand for.
use Rattle.std.proofs.Common.{◌≡◌, ◌<◌, ℕ, List, get_or}
use Rattle.definitions.specs.Closure.{has, bit}
use Rattle.propagation.specs.Marks.{Marked}
use Rattle.judge.proofs.guarantee.flag_marked.Given as goal

abbrev pub invariant-loop-l : goal.invariant-loop-l
invariant-loop-l l = (K : List ℕ) → Marked l.atoms l.marks K → (k : ℕ) → k < l.l → get_or l.flags k 0 ≡ bit (has K k)
