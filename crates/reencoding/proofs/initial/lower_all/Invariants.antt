-- `reencoding::initial::lower_all`: the values are lowered to the true atoms before the index.
use Rattle.std.proofs.Common.{◌≡◌, drop}
use Rattle.reencoding.specs.Parts.{lowered}
use Rattle.reencoding.proofs.initial.lower_all.Given as goal

abbrev pub invariant-loop-x : goal.invariant-loop-x
invariant-loop-x l = lowered l.places l.trues l.fn.values ≡ lowered l.places (drop l.x-index l.trues) l.values
