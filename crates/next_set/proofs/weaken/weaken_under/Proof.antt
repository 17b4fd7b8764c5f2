-- `next_set::weaken::weaken_under`: the clauses that fail are weakened by the literals listed. Assumes nothing.
use Prim.Native.Nat.{ℕ}
use mathlib.Core.Option.{Option, some}
use mathlib.Core.Path.{sym, subst}
use mathlib.Core.List.{List}
use lib.ListN.{take}
use lib.Seq.{length-take-le}
use Rattle.definitions.specs.Image.{Operator}
use Rattle.task.specs.Walk.{operator_in}
use Rattle.clause_set.specs.Held.{held, Holds}
use Rattle.next_set.proofs.Adding.{weakening, under_added}
use borrow.Author.Rules.{rules}
use Rattle.next_set.proofs.weaken.weaken_under.Statement.{statement}
use Rattle.next_set.proofs.weaken.weaken_under.Tie as tie

-- where the clauses are judged: the clause words, the operator, the flags of the clauses and the literals listed
abbrev judged : Type 0
judged = tie.After-judge_listed-length

abbrev start : judged → tie.Start
start d = let p = d.before.before.before in let q = p.before.before.before in let r = q.before.before.before in r.before

abbrev words : judged → List ℕ
words d = (start d).args.clauses.now

abbrev operator : judged → Operator
operator d = operator_in (start d).args.block.now

abbrev fails : judged → List ℕ
fails d = d.judge_listed-length.new.fails

abbrev room : judged → List ℕ
room d = d.judge_listed-length.new.list

literals-requires : tie.Need-literals-list-requires
literals-requires c κs = search rules

slice-aggregate-judge-listed : tie.Need-slice_bounds-judge_listed-end
slice-aggregate-judge-listed c = search rules

judge-listed-requires : tie.Need-judge_listed-length-requires
judge-listed-requires c κs = search rules

array-share-prefix-list : tie.Need-slice_bounds-list-end
array-share-prefix-list c = search rules

abbrev judged_from_list3 : tie.After-list-3-1 → judged
judged_from_list3 c = let p = c.before.before.before in p.before.before.before

slice-aggregate-weaken-rows : tie.Need-slice_bounds-weaken_rows-end
slice-aggregate-weaken-rows c = let d = judged_from_list3 c in sym (length-take-le _ (room d) d.judge_listed-length.ensures.1.few)

abbrev judged_from_weaken_rows : tie.After-weaken_rows-arg-1 → judged
judged_from_weaken_rows c = let p = c.before.before.before in let q = p.before.before.before in q.before

weaken-rows-requires : tie.Need-weaken_rows-requires
weaken-rows-requires c κs =
    let d = judged_from_weaken_rows c in
    let g = (start d).requires.0.given in
    let a = (start d).args in (
      weakening (words d) (operator d) a.atoms a.k (fails d) d.judge_listed-length.ensures.0 g.few g.rows _
          d.judge_listed-length.ensures.1.low (start d).requires.1,
      (start d).requires.2,
    )

same_length : tie.Need-shape_of-marks
same_length c = search rules

same-length-2 : tie.Need-shape_of-fails
same-length-2 c = search rules

same-length-3 : tie.Need-shape_of-work
same-length-3 c = search rules

abbrev judged_from_slice_known6 : tie.After-slice_known-6-1 → judged
judged_from_slice_known6 c = let p = c.before.before.before in let q = p.before.before.before in let r = q.before.before.before in r.before

returns : tie.Need-returns
returns c =
    let r = c.weaken_rows in
    let d = judged_from_slice_known6 c in
    let a = (start d).args in
    let s : Option (List (List ℕ)) = some (held a.count a.work.now) in
    λ t e. subst (λ (z : Option (List (List ℕ))). Holds a.rows r.result r.new.work z)
    (under_added (words d) (operator d) a.atoms a.k (fails d) d.judge_listed-length.ensures.0 t e a.rows s
    (take d.judge_listed-length.result (room d)) (d.judge_listed-length.ensures.1.words t e))
    r.ensures

pub weaken_under_spec : {M : Type 1} → statement M
weaken_under_spec =
    tie.close
    (tie.spec
    literals-requires
    slice-aggregate-judge-listed
    judge-listed-requires
    array-share-prefix-list
    slice-aggregate-weaken-rows
    weaken-rows-requires
    same_length
    same-length-2
    same-length-3
    returns)
