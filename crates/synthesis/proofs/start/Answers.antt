-- Question 14, the first set, the rounds.
use Rattle.std.proofs.Common.{◌∙◌, refl, length}
use Rattle.synthesis.proofs.Calls.{call_rows, call_run, call_room, call_begun}
use Rattle.synthesis.proofs.start.Goals as goal

pub returns-then-rows-atoms : goal.returns-then-rows-atoms
returns-then-rows-atoms c =
    c.clear.ensures
    ∙ call_rows c.args.image.now c.args.n c.args.limit c.args.clauses.now (length c.args.work.now) (length c.args.marks.now) c.requires
    c.atoms-atoms.result c.atoms-atoms.ensures.0 c.rows_in-rows.result c.rows_in-rows.ensures c.if-rows-atoms.true

pub write_first-requires : goal.write_first-requires
write_first-requires c = (
  c.requires.task,
  call_room c.args.image.now c.args.n c.args.limit c.args.clauses.now (length c.args.work.now) (length c.args.marks.now) c.requires
      c.atoms-atoms.result c.atoms-atoms.ensures.0 c.rows_in-rows.result c.rows_in-rows.ensures c.if-rows-atoms.false,
)

pub run-requires : goal.run-requires
run-requires c =
    call_begun c.args.image.now c.args.n c.args.limit c.args.clauses.now (length c.args.work.now) (length c.args.marks.now) c.requires
    c.atoms-atoms.result c.atoms-atoms.ensures.0 c.rows_in-rows.result c.rows_in-rows.ensures c.if-rows-atoms.false c.atoms-atoms.ensures.1
    _ c.write_first.new.clauses refl c.write_first.auto.clauses c.write_first.ensures

pub returns : goal.returns
returns c =
    c.run.ensures
    ∙ call_run c.args.image.now c.args.n c.args.limit c.args.clauses.now (length c.args.work.now) (length c.args.marks.now) c.requires
    c.atoms-atoms.result c.atoms-atoms.ensures.0 c.rows_in-rows.result c.rows_in-rows.ensures c.if-rows-atoms.false c.write_first.new.clauses
    c.write_first.auto.clauses
