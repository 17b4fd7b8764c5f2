-- `next_set::weaken::judge_listed`: the clauses judged, and the flags of the guaranteed literals listed. Assumes nothing.
use Prim.Native.Nat.{ℕ, ◌*◌, ◌≤◌}
use mathlib.Core.Bool.{Bool, true, false}
use mathlib.Core.Path.{◌≡◌, sym, ◌∙◌, subst}
use mathlib.Core.List.{List}
use native.Mathlib.Omega.{arith}
use lib.ListN.{length}
use lib.Seq.{length-take-le}
use Rattle.definitions.specs.Image.{Operator}
use Rattle.definitions.specs.Literal.{most_literals}
use Rattle.definitions.proofs.ListLaws.{never}
use Rattle.clause.specs.Rows.{clauses_of}
use Rattle.task.specs.Walk.{operator_in}
use Rattle.judge.specs.Judging.{Guarantees}
use Rattle.judge.proofs.Parts.{CameBack, came_back}
use Rattle.next_set.specs.Post.{Listed}
use Rattle.next_set.proofs.Adding.{listed_guarantees, listed_low, no_words}
use borrow.Author.Rules.{rules}
use Rattle.next_set.proofs.weaken.judge_listed.Statement.{statement}
use Rattle.next_set.proofs.weaken.judge_listed.Tie as tie

-- where the part of the local array is lent
abbrev lent : Type 0
lent = tie.After-flags-1

abbrev start : lent → tie.Start
start b = let p = b.before.before.before in let q = p.before.before.before in q.before.before.before

abbrev size : lent → ℕ
size b = 2 * (start b).args.atoms

abbrev local : lent → List ℕ
local b = b.literal_flags-flags.result

few : (b : lent) → size b ≤ most_literals
few b = omega (arith, (start b).requires.0.given.few)

fits : (b : lent) → size b ≤ length (local b)
fits b = omega (arith, b.literal_flags-flags.ensures, few b)

-- where the clauses are judged: the clauses, the operator and the flags of the literals
abbrev judged : Type 0
judged = tie.After-judge_guaranteed

abbrev clauses : judged → List (List ℕ)
clauses d = clauses_of (start d.before).args.clauses.now

abbrev operator : judged → Operator
operator d = operator_in (start d.before).args.block.now

abbrev flags : judged → List ℕ
flags d = d.judge_guaranteed.new.flags

back : (d : judged) → CameBack (size d.before) (local d.before) (flags d)
back d = came_back (size d.before) (local d.before) (flags d) (fits d.before) d.judge_guaranteed.auto.flags

guarantees : (d : judged) (r : Bool) → d.judge_guaranteed.result ≡ r → Guarantees (start d.before).args.atoms (clauses d) (operator d) (flags d) r
guarantees d r e = subst (Guarantees (start d.before).args.atoms (clauses d) (operator d) (flags d)) e d.judge_guaranteed.ensures.1

-- where the flags are listed
abbrev listing : tie.After-list_flagged → judged
listing c = let p = c.before.before.before in let q = p.before.before.before in q.before.before.before

listed : (c : tie.After-list_flagged) → Listed (flags (listing c)) c.list_flagged.new.list c.list_flagged.result
listed c = subst (λ (z : List ℕ). Listed z c.list_flagged.new.list c.list_flagged.result) (back (listing c)).part c.list_flagged.ensures

literal-flags-requires : tie.Need-literal_flags-flags-requires
literal-flags-requires c κs = search rules

mul-size : tie.Need-overflow_mul-size
mul-size c = search rules

array-borrow-prefix-flags : tie.Need-slice_bounds-flags-end
array-borrow-prefix-flags c = search rules

slice-aggregate-judge-guaranteed : tie.Need-slice_bounds-judge_guaranteed-end
slice-aggregate-judge-guaranteed c = sym (length-take-le (size c) (local c) (fits c))

judge-guaranteed-requires : tie.Need-judge_guaranteed-requires
judge-guaranteed-requires c κs = ((start c).requires.0, length-take-le (size c) (local c) (fits c))

same_length : tie.Need-shape_of-marks-then-not-judge_guaranteed
same_length c = search rules

same-length-2 : tie.Need-shape_of-fails-then-not-judge_guaranteed
same-length-2 c = search rules

abbrev judged_from_then1 : tie.Then-not-judge_guaranteed → judged
judged_from_then1 c = let p = c.before.before.before in p.before.before.before

returns : tie.Need-returns-then-not-judge_guaranteed
returns c =
    let d = judged_from_then1 c in
    let h = guarantees d false (c.if-not-judge_guaranteed.true) in
    (d.judge_guaranteed.ensures.0, record { few = omega arith; low = no_words (start d.before).args.list.now; words = λ t e k. never h k })

abbrev judged_from_else1 : tie.Else-not-judge_guaranteed → judged
judged_from_else1 c = let p = c.before.before.before in p.before.before.before

array-share-prefix-flags : tie.Need-slice_bounds-flags-end-2
array-share-prefix-flags c = (back (judged_from_else1 c)).room

abbrev judged_from_flags3 : tie.After-flags-3-1 → judged
judged_from_flags3 c = let p = c.before.before.before in let q = p.before.before.before in q.before

slice-aggregate-list-flagged : tie.Need-slice_bounds-list_flagged-end
slice-aggregate-list-flagged c = (back (judged_from_flags3 c)).whole

abbrev judged_from_list_flagged : tie.After-list_flagged-arg-1 → judged
judged_from_list_flagged c = let p = c.before.before.before in let q = p.before.before.before in q.before.before

list-flagged-requires : tie.Need-list_flagged-requires
list-flagged-requires c κs =
    let d = judged_from_list_flagged c in
    let e = (back d).whole in
    (omega (arith, few d.before, (start d.before).requires.1, e), omega (arith, few d.before, e))

same-length-3 : tie.Need-shape_of-marks
same-length-3 c = search rules

same-length-4 : tie.Need-shape_of-fails
same-length-4 c = search rules

same-length-5 : tie.Need-shape_of-list
same-length-5 c = search rules

abbrev else1_from_slice_known6 : tie.After-slice_known-6-1 → tie.Else-not-judge_guaranteed
else1_from_slice_known6 c = let p = c.before.before.before in p.before.before

returns-2 : tie.Need-returns
returns-2 c =
    let i = c.before.before in
    let d = listing i in
    let s = start d.before in
    let l = listed i in
    let h = guarantees d true ((else1_from_slice_known6 c).if-not-judge_guaranteed.false) in (
      d.judge_guaranteed.ensures.0,
      record {
        few = omega (arith, l.few, (back d).size, few d.before, s.requires.1, i.list_flagged.auto.list);
        low = listed_low (flags d) _ _ l (omega (arith, (back d).size, few d.before));
        words = λ t q k. l.words ∙ listed_guarantees t (clauses d) (operator d) s.args.atoms (flags d) q h.1;
      },
    )

pub judge_listed_spec : {M : Type 1} → statement M
judge_listed_spec =
    tie.close
    (tie.spec
    literal-flags-requires
    mul-size
    array-borrow-prefix-flags
    slice-aggregate-judge-guaranteed
    judge-guaranteed-requires
    same_length
    same-length-2
    returns
    array-share-prefix-flags
    slice-aggregate-list-flagged
    list-flagged-requires
    same-length-3
    same-length-4
    same-length-5
    returns-2)
