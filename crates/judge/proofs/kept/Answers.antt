-- The questions in order, then the test.
use Rattle.std.proofs.Common.{◌≡◌, ◌∙◌, true, length}
use borrow.Author.Tests.{ltb-true, leb-true}
use lib.Dec.{ltb, leb}
use Rattle.definitions.specs.Answer.{ask}
use Rattle.definitions.specs.Marks.{mark_bytes}
use Rattle.answer.proofs.Laws.{left_by, handed_on, goes_on, asked_yes}
use Rattle.task.specs.Reads.{task_of}
use Rattle.judge.proofs.Keeping.{read_refused, clause_refused, clause_read, keeps_asks}
use Rattle.judge.proofs.kept.Goals as goal

pub returns-in_err-read : goal.returns-in_err-read
returns-in_err-read c = left_by _ _ c.from_residual.ensures.1 ∙ read_refused _ _ _ _ _ _ c.in_err-read.ensures

pub returns-in_err-check_clause : goal.returns-in_err-check_clause
returns-in_err-check_clause c =
    left_by _ _ c.from_residual-in_err-check_clause.ensures.1
    ∙ clause_refused _ _ _ _ _ c.in_ok-read.ensures _ (rw (← c.atoms-atoms.ensures.0) c.in_err-check_clause.ensures)

pub returns-in_err-ask : goal.returns-in_err-ask
returns-in_err-ask c =
    let alone = clause_read _ _ _ _ c.atoms-atoms.ensures.0 c.in_ok-check_clause.ensures in
    left_by _ _ c.from_residual-in_err-ask.ensures.1
    ∙ rw (← c.wide-number.ensures.0, ← keeps_asks _ _ _ c.wide-number.result _ c.in_ok-read.ensures alone, ← c.operators.ensures.0)
    (handed_on _ _ _ c.in_err-ask.ensures)

pub returns-in_err-ask-2 : goal.returns-in_err-ask-2
returns-in_err-ask-2 c =
    let alone = clause_read _ _ _ _ c.atoms-atoms.ensures.0 c.in_ok-check_clause.ensures in
    left_by _ _ c.from_residual-in_err-ask-2.ensures.1
    ∙ rw (
      ← c.wide-number.ensures.0,
      ← keeps_asks _ _ _ c.wide-number.result _ c.in_ok-read.ensures alone,
      ← c.operators.ensures.0,
      ← c.atoms-atoms.ensures.0,
      ← c.bytes-needed.ensures,
    )
    (handed_on _ _ _ c.in_err-ask-2.ensures ∙ goes_on _ _ _ c.in_ok-ask.ensures)

pub test-requires : goal.test-requires
unfolding ask
test-requires c =
    let inside : ltb c.wide-number.result (length (task_of c.args.image.now).operators) ≡ true =
    rw (← c.operators.ensures.0) (asked_yes _ _ _ _ c.in_ok-ask.ensures) in
    let room : leb (mark_bytes (task_of c.args.image.now).atoms) (length c.args.marks.now) ≡ true =
    rw (← c.atoms-atoms.ensures.0, ← c.bytes-needed.ensures) (asked_yes _ _ _ _ c.in_ok-ask-2.ensures) in
    record {
      task = c.in_ok-read.ensures.task;
      clauses = c.in_ok-read.ensures.clauses;
      clause = clause_read _ _ _ _ c.atoms-atoms.ensures.0 c.in_ok-check_clause.ensures;
      operator = ltb-true _ _ inside;
      marked = leb-true _ _ room;
    }

pub returns : goal.returns
returns c = rw (← c.wide-number.ensures.0) c.test.ensures
