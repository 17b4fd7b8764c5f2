-- `next_set::next_set`: the survivors, then the weakened clauses. Assumes nothing.
use Prim.Native.Nat.{ℕ, ◌*◌, ◌≤◌}
use mathlib.Core.Option.{Option}
use mathlib.Core.Path.{◌∙◌, subst}
use mathlib.Core.List.{List}
use native.Mathlib.Omega.{arith}
use lib.ListN.{length}
use Rattle.definitions.specs.Clauses.{width}
use Rattle.clause.specs.Rows.{clauses_of}
use Rattle.clause.proofs.RowLaws.{clauses_length}
use Rattle.task.specs.Reads.{task_of}
use Rattle.clause_set.specs.Held.{Holds}
use Rattle.next_set.specs.Build.{fails_below}
use Rattle.next_set.proofs.Flags.{flags_length}
use Rattle.next_set.proofs.Surviving.{round_words, survivors_room, next_set_built}
use borrow.Author.Rules.{rules}
use Rattle.next_set.proofs.next_set.Statement.{statement}
use Rattle.next_set.proofs.next_set.Tie as tie

-- where the survivors are copied
abbrev copied : Type 0
copied = tie.After-copy_unflagged-count

abbrev start : copied → tie.Start
start d = let p = d.before.before.before in let q = p.before.before.before in q.before.before.before

abbrev survivors : copied → List ℕ
survivors d = d.copy_unflagged-count.new.work

fits : (d : copied) → width * (start d).args.rows ≤ length (survivors d)
fits d = omega (arith, (start d).requires.fits, d.copy_unflagged-count.auto.work)

abbrev start_from_copy_unflagged : tie.After-copy_unflagged-arg-1 → tie.Start
start_from_copy_unflagged c = let p = c.before.before.before in let q = p.before.before.before in q.before.before

copy-unflagged-requires : tie.Need-copy_unflagged-count-requires
copy-unflagged-requires c κs =
    let a = (start_from_copy_unflagged c).args in
    let p = (start_from_copy_unflagged c).requires in
    let t = task_of a.image.now in
    let C = clauses_of a.clauses.now in (
      flags_length (fails_below t C (length t.operators)) C a.failing.now p.flags ∙ clauses_length a.clauses.now,
      omega (arith, p.fits, round_words a.image.now a.clauses.now a.atoms a.most a.rows p.round),
    )

abbrev copied_from_weaken : tie.After-weaken-arg-3-1 → copied
copied_from_weaken c = let p = c.before.before.before in p.before.before

weaken-requires : tie.Need-weaken-requires
weaken-requires c κs =
    let d = copied_from_weaken c in
    let a = (start d).args in
    let p = (start d).requires in
    let r = p.round in (
      record {
        tested = record { given = record { read = r.read; room = p.room; flagged = p.flagged }; noted = p.noted };
        some_literal = r.some_literal;
        narrow = r.narrow;
      },
      survivors_room a.image.now a.clauses.now a.atoms a.most a.rows r a.failing.now p.flags d.copy_unflagged-count.result
          (survivors d) d.copy_unflagged-count.ensures (fits d),
    )

same_length : tie.Need-shape_of-marks
same_length c = search rules

same-length-2 : tie.Need-shape_of-fails
same-length-2 c = search rules

same-length-3 : tie.Need-shape_of-work
same-length-3 c = search rules

abbrev weaken_from_slice_known7 : tie.After-slice_known-7-1 → tie.After-weaken
weaken_from_slice_known7 c = let p = c.before.before.before in p.before.before.before

abbrev copied_from_weaken_2 : tie.After-weaken → copied
copied_from_weaken_2 c = let p = c.before.before.before in p.before.before.before

returns : tie.Need-returns
returns c =
    let w = weaken_from_slice_known7 c in
    let d = copied_from_weaken_2 w in
    let a = (start d).args in
    let p = (start d).requires in
    subst (λ (z : Option (List (List ℕ))). Holds a.rows w.weaken.result w.weaken.new.work z)
    (next_set_built a.image.now a.clauses.now a.atoms a.most a.rows p.round a.failing.now p.flags
    d.copy_unflagged-count.result (survivors d) d.copy_unflagged-count.ensures (fits d))
    w.weaken.ensures

pub next_set_spec : {M : Type 1} → statement M
next_set_spec =
    tie.close
    (tie.spec
    copy-unflagged-requires
    weaken-requires
    same_length
    same-length-2
    same-length-3
    returns)
