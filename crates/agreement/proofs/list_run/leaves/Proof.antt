-- `agreement::list_run::leaves`: the other states are parts of local arrays, as long as those to compare with.
use mathlib.Core.Path.{sym}
use native.Mathlib.Omega.{arith}
use lib.Seq.{length-take-le}
use borrow.Author.Rules.{rules}
use Rattle.agreement.proofs.list_run.leaves.Statement.{statement}
use Rattle.agreement.proofs.list_run.leaves.Tie as tie

state-requires : tie.Need-state-other-requires
state-requires c κs = search rules

values-requires : tie.Need-values-others-requires
values-requires c κs = search rules

array-borrow-prefix-other : tie.Need-slice_bounds-other-end
array-borrow-prefix-other c = search rules

slice-aggregate-leaves-in : tie.Need-slice_bounds-leaves_in-end
slice-aggregate-leaves-in c = sym (length-take-le _ c.state-other.result (omega arith))

array-borrow-prefix-others : tie.Need-slice_bounds-others-end
array-borrow-prefix-others c = search rules

slice-aggregate-leaves-in-2 : tie.Need-slice_bounds-leaves_in-end-2
slice-aggregate-leaves-in-2 c = sym (length-take-le _ c.values-others.result (omega arith))

leaves-in-requires : tie.Need-leaves_in-requires
leaves-in-requires c κs =
    record {
      atoms = length-take-le _ c.state-other.result (omega arith);
      values = length-take-le _ c.values-others.result (omega arith);
    }

returns : tie.Need-returns
returns c = search rules

pub leaves_spec : {M : Type 1} → statement M
leaves_spec =
    tie.close
    (tie.spec
    state-requires
    values-requires
    array-borrow-prefix-other
    slice-aggregate-leaves-in
    array-borrow-prefix-others
    slice-aggregate-leaves-in-2
    leaves-in-requires
    returns)
