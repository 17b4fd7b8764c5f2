use mathlib.Core.Path.{◌≡◌, sym, ap}
use Prim.Native.Nat.{◌≤◌, ◌+◌}
use native.Mathlib.Omega.{arith}
use lib.ListN.{length, take}
use lib.Seq.{length-take-le}
use Rattle.reencoding.proofs.InitialLaws.{words_end, part_is, wrote_lowered}
use borrow.Author.Rules.{rules}
use Rattle.reencoding.proofs.initial.values.Statement.{statement}
use Rattle.reencoding.proofs.initial.values.Tie as tie

taken : (c : tie.Start) → length (take c.args.count c.args.sizes.now) ≡ c.args.count
taken c = length-take-le c.args.count c.args.sizes.now c.requires.1

room : (c : tie.Start) → c.args.at + length (take c.args.count c.args.sizes.now) ≤ length c.args.target.now
room c = omega (arith, taken c, c.requires.2)

-- the places of the function
abbrev at_start : tie.After-shared_slice_known-2-1 → tie.Start
at_start c = c.before.before

abbrev after_shared_slice_known2 : tie.After-words-arg-1 → tie.After-shared_slice_known-2-1
after_shared_slice_known2 c = c.before.before.before

abbrev after_words_arg : tie.After-words-arg-1 → tie.After-words-arg-1
after_words_arg c = c

abbrev after_words_arg2 : tie.After-words-end → tie.After-words-arg-1
after_words_arg2 c = c.before

abbrev after_words : tie.After-slice_known-2-1 → tie.After-words-end
after_words c = c.before.before

abbrev at_start_from_slice_known2 : tie.After-slice_known-2-1 → tie.Start
at_start_from_slice_known2 c = at_start (after_shared_slice_known2 (after_words_arg (after_words_arg2 (after_words c))))

abbrev after_slice_known2 : tie.After-lower_all-arg-1 → tie.After-slice_known-2-1
after_slice_known2 c = c.before

abbrev at_start_from_lower_all_arg : tie.After-lower_all-arg-1 → tie.Start
at_start_from_lower_all_arg c = at_start (after_shared_slice_known2 (after_words_arg (after_words_arg2 (after_words (after_slice_known2 c)))))

abbrev after_lower_all_arg : tie.After-slice_known-3-1 → tie.After-lower_all-arg-1
after_lower_all_arg c = c.before.before.before

abbrev at_start_from_slice_known3 : tie.After-slice_known-3-1 → tie.Start
at_start_from_slice_known3 c =
    at_start (after_shared_slice_known2 (after_words_arg (after_words_arg2 (after_words (after_slice_known2 (after_lower_all_arg c))))))

slice-aggregate-words : tie.Need-slice_bounds-words-end
slice-aggregate-words c =
    sym
    (length-take-le c.args.count c.args.sizes.now
    c.requires.1)

words-requires : tie.Need-words-end-requires
words-requires c κs =
    omega (
      arith,
      c.requires.2,
      length-take-le c.args.count c.args.sizes.now c.requires.1,
    )

mul-lower-all : tie.Need-offset_bounds-target-at
mul-lower-all c = search rules

sub-lower-all : tie.Need-slice_bounds-lower_all-count
sub-lower-all c = search rules

part-lower-all-start : tie.Need-slice_bounds-lower_all-start
part-lower-all-start c = search rules

part-lower-all-end : tie.Need-slice_bounds-lower_all-end
part-lower-all-end c = words_end _ _ _ _ _ c.words-end.ensures (room (at_start_from_slice_known2 c))

lower-all-requires : tie.Need-lower_all-requires
lower-all-requires c κs =
    let s = at_start_from_lower_all_arg c in
    let e = ap length (part_is _ _ _ _ _ c.words-end.ensures (room s)) in
    let t = taken s in
    record { below = s.requires.0.below; variable = λ a h. (let k = s.requires.0.variable a h in omega arith) }

same_length : tie.Need-shape_of-target
same_length c = search rules

returns : tie.Need-returns
returns c =
    wrote_lowered _ _ _ _ _ c.words-end.ensures (room (at_start_from_slice_known3 c)) _ _ _
    c.lower_all.ensures

pub values_spec : {M : Type 1} → statement M
values_spec =
    tie.close
    (tie.spec
    slice-aggregate-words
    words-requires
    mul-lower-all
    sub-lower-all
    part-lower-all-start
    part-lower-all-end
    lower-all-requires
    same_length
    returns)
