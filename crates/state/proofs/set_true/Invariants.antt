-- Setting all atoms is setting those that are left, in the state so far.
use Rattle.std.proofs.Common.{◌≡◌, drop}
use Rattle.state.specs.Flags.{set_true}
use Rattle.state.proofs.set_true.Given as goal

abbrev pub invariant-loop-atom : goal.invariant-loop-atom
invariant-loop-atom l = set_true l.atoms l.fn.state ≡ set_true (drop l.atom-index l.atoms) l.state
