-- `agreement::compare_images`: the states are parts of local arrays, as long as the images say.
use mathlib.Core.Path.{sym, ◌∙◌}
use native.Mathlib.Omega.{arith}
use lib.Seq.{length-take-le}
use Rattle.agreement.proofs.Comparing.{images_by}
use borrow.Author.Rules.{rules}
use Rattle.agreement.proofs.compare_images.Statement.{statement}
use Rattle.agreement.proofs.compare_images.Tie as tie

-- after the comparison: the rooms, and the numbers of atoms and variables
abbrev compared : tie.After-values-2-1 → tie.After-same_list
compared c = c.before.before

abbrev rooms : tie.After-same_list → tie.After-values-values
rooms c = c.before.before.before

abbrev sizes : tie.After-values-values → tie.After-variables-variables
sizes c = c.before.before

atoms-requires : tie.Need-atoms-atoms-requires
atoms-requires c κs = search rules

variables-requires : tie.Need-variables-variables-requires
variables-requires c κs = search rules

state-requires : tie.Need-state-state-requires
state-requires c κs = search rules

values-requires : tie.Need-values-values-requires
values-requires c κs = search rules

array-borrow-prefix-state : tie.Need-slice_bounds-state-end
array-borrow-prefix-state c = search rules

slice-aggregate-same-list : tie.Need-slice_bounds-same_list-end
slice-aggregate-same-list c = sym (length-take-le _ c.state-state.result (omega arith))

array-borrow-prefix-values : tie.Need-slice_bounds-values-end
array-borrow-prefix-values c = search rules

slice-aggregate-same-list-2 : tie.Need-slice_bounds-same_list-end-2
slice-aggregate-same-list-2 c = sym (length-take-le _ c.values-values.result (omega arith))

same-list-requires : tie.Need-same_list-requires
same-list-requires c κs =
    let r = c.before.before in
    let n = sizes r in
    let s = length-take-le n.atoms-atoms.result r.state-state.result (omega arith) in
    let v = length-take-le n.variables-variables.result r.values-values.result (omega arith) in
    record { atoms = omega arith; values = omega arith }

returns : tie.Need-returns
returns c =
    let d = compared c in
    let r = rooms d in
    let n = sizes r in
    d.same_list.ensures
    ∙ images_by _ _ _ _ _ _
    (length-take-le _ r.state-state.result (omega arith) ∙ n.atoms-atoms.ensures.0)
    (length-take-le _ r.values-values.result (omega arith) ∙ n.variables-variables.ensures.0)

pub compare_images_spec : {M : Type 1} → statement M
compare_images_spec =
    tie.close
    (tie.spec
    atoms-requires
    variables-requires
    state-requires
    values-requires
    array-borrow-prefix-state
    slice-aggregate-same-list
    array-borrow-prefix-values
    slice-aggregate-same-list-2
    same-list-requires
    returns)
