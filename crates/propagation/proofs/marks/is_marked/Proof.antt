use Prim.Native.Nat.{◌/◌}
use native.Mathlib.Omega.{arith}
use Rattle.definitions.proofs.MarkBits.{test_mark}
use borrow.Author.Rules.{rules}
use Rattle.propagation.proofs.marks.is_marked.Statement.{statement}
use Rattle.propagation.proofs.marks.is_marked.Tie as tie

shared-slice-read-result : tie.Need-bounds-marks-l
shared-slice-read-result c = search rules

cast-result : tie.Need-overflow_cast-result
cast-result c = omega (arith, c.shared_slice_known-1.given (c.args.l / 8))

shr-result : tie.Need-overflow_shr-result
shr-result c = search rules

returns : tie.Need-returns
returns c = test_mark _ _

pub is_marked_spec : {M : Type 1} → statement M
is_marked_spec = tie.close (tie.spec
    shared-slice-read-result
    cast-result
    shr-result
    returns)
