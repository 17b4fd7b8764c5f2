-- `next_set::weaken::weaken_operator`: nothing is added where no failure is noted, else what the operator's block adds. Assumes nothing.
use Prim.Native.Nat.{◌+◌, ◌*◌, ◌<◌}
use mathlib.Core.Option.{some}
use mathlib.Core.Path.{sym, subst}
use native.Mathlib.Omega.{arith}
use Rattle.definitions.specs.Image.{most_operators, Operator, Task}
use Rattle.definitions.specs.Clauses.{width}
use Rattle.literal.proofs.Mark.{zero_place}
use Rattle.clause.specs.Rows.{clauses_of}
use Rattle.task.specs.Reads.{task_of}
use Rattle.clause_set.specs.Put.{put_all}
use Rattle.clause_set.specs.Held.{held, Holds}
use Rattle.next_set.specs.Build.{added_by}
use Rattle.next_set.proofs.Testing.{few_operators, read_bulk}
use Rattle.next_set.proofs.Noting.{put_none}
use borrow.Author.Rules.{rules}
use Rattle.next_set.proofs.weaken.weaken_operator.Statement.{statement}
use Rattle.next_set.proofs.weaken.weaken_operator.Tie as tie

-- before the call of `is_zero`
abbrev asking : Type 0
asking = tie.After-slice_known-3-1

abbrev start : asking → tie.Start
start b = let p = b.before.before.before in p.before.before.before

few : (b : asking) → (start b).args.operator < most_operators
few b =
    let p = (start b).requires in
    omega (arith, p.1, few_operators (start b).args.image.now p.0.tested.given.read.task)

-- where the operator's block is known
abbrev found : Type 0
found = tie.After-operator_block-block

abbrev begun : found → tie.Start
begun d = start d.before.before.before

mul-is-zero : tie.Need-overflow_mul-operator
mul-is-zero c = omega (arith, few c)

add-is-zero : tie.Need-overflow_add-operator
unfolding width
add-is-zero c = omega (arith, few c, (start c).requires.0.short)

is-zero-requires : tie.Need-is_zero-requires
is-zero-requires c κs = search rules

returns : tie.Need-returns-then-is_zero
unfolding width
returns c =
    let q = c.before in
    let s = start q.before in
    let a = s.args in
    let w = s.requires.0 in
    let z = zero_place a.due.now (width * a.operator + a.k) q.is_zero.result q.is_zero.ensures c.if-is_zero.true in (
      s.requires.2,
      put_none (task_of a.image.now) (clauses_of a.clauses.now) a.due.now w.tested.noted a.operator a.k s.requires.1
          w.some_literal (omega (arith, w.short)) z.1 z.0 a.rows (some (held a.count a.work.now)),
    )

operator-block-requires : tie.Need-operator_block-block-requires
operator-block-requires c κs = let s = start c.before.before in (s.requires.0.tested.given.read.task, s.requires.1)

weaken-under-requires : tie.Need-weaken_under-requires
weaken-under-requires c κs =
    let d = c.before.before.before in
    let a = (begun d).args in
    let p = (begun d).requires in (
      read_bulk a.image.now a.clauses.now _ a.atoms a.operator a.marks.now a.fails.now p.0.tested.given p.1
          d.operator_block-block.ensures,
      p.0.short,
      p.2,
    )

same_length : tie.Need-shape_of-marks
same_length c = search rules

same-length-2 : tie.Need-shape_of-fails
same-length-2 c = search rules

same-length-3 : tie.Need-shape_of-work
same-length-3 c = search rules

abbrev weaken_under_from_slice_known6 : tie.After-slice_known-6-1 → tie.After-weaken_under
weaken_under_from_slice_known6 c = let p = c.before.before.before in p.before.before.before

abbrev found_from_weaken_under : tie.After-weaken_under → found
found_from_weaken_under c = let p = c.before.before.before in p.before

returns-2 : tie.Need-returns
returns-2 c =
    let e = weaken_under_from_slice_known6 c in
    let d = found_from_weaken_under e in
    let a = (begun d).args in
    let t : Task = task_of a.image.now in
    subst
    (λ (o : Operator).
    Holds a.rows e.weaken_under.result e.weaken_under.new.work
    (put_all a.rows (added_by t (clauses_of a.clauses.now) a.k o) (some (held a.count a.work.now))))
    d.operator_block-block.ensures.operator
    (e.weaken_under.ensures t (sym (begun d).requires.0.tested.given.read.counted))

pub weaken_operator_spec : {M : Type 1} → statement M
weaken_operator_spec =
    tie.close
    (tie.spec
    mul-is-zero
    add-is-zero
    is-zero-requires
    returns
    operator-block-requires
    weaken-under-requires
    same_length
    same-length-2
    same-length-3
    returns-2)
