-- `synthesis::round`: the rows shared. Assumes nothing.
use Prim.Native.Nat.{◌*◌}
use mathlib.Core.Path.{sym}
use native.Mathlib.Omega.{arith}
use lib.ListN.{length}
use lib.Seq.{length-take-le}
use Rattle.definitions.specs.Clauses.{width}
use borrow.Author.Rules.{rules}
use Rattle.synthesis.proofs.round.Statement.{statement}
use Rattle.synthesis.proofs.round.Tie as tie

abbrev known : tie.After-slice_known-2-1 → tie.After-shared_slice_known-2-1
known d = d.before.before

abbrev start : tie.After-slice_known-2-1 → tie.Start
start d = (known d).before.before

mul-end : tie.Need-overflow_mul-end
unfolding width
mul-end c = omega (arith, (start c).requires.0)

slice-aggregate-round-on : tie.Need-slice_bounds-round_on-end
unfolding width
slice-aggregate-round-on c =
    let s = start c in
    sym (length-take-le (width * s.args.count) s.args.clauses.now s.requires.0)

round-on-requires : tie.Need-round_on-requires
unfolding width
round-on-requires c κs =
    let d = c.before.before in
    (start d).requires.1

same_length : tie.Need-shape_of-marks
same_length c = search rules

same-length-2 : tie.Need-shape_of-work
same-length-2 c = search rules

returns : tie.Need-returns
unfolding width
returns c = search rules

pub round_spec : {M : Type 1} → statement M
round_spec =
    tie.close
    (tie.spec
    mul-end
    slice-aggregate-round-on
    round-on-requires
    same_length
    same-length-2
    returns)
