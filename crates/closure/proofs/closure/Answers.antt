-- The questions in order, then the closure.
use Rattle.std.proofs.Common.{◌≡◌, ◌∙◌, ap, true, length}
use borrow.Author.Tests.{ltb-true, leb-true}
use lib.Dec.{ltb, leb}
use Rattle.definitions.specs.Answer.{ask}
use Rattle.definitions.specs.Groups.{written}
use Rattle.definitions.specs.Marks.{mark_bytes}
use Rattle.answer.proofs.Laws.{left_unwritten, handed_on, goes_on, asked_yes}
use Rattle.task.specs.Reads.{task_of}
use Rattle.closure.proofs.Calls.{call_read, call_asks}
use Rattle.closure.proofs.closure.Goals as goal

pub returns-in_err-read : goal.returns-in_err-read
returns-in_err-read c = left_unwritten _ _ _ _ c.from_residual.ensures.1 (call_read _ _ _ _ _ c.in_err-read.ensures)

pub returns-in_err-ask : goal.returns-in_err-ask
returns-in_err-ask c =
    rw (← c.wide-number.ensures.0)
    (left_unwritten _ _ _ _ c.from_residual-in_err-ask.ensures.1
    (rw (← call_asks _ _ c.wide-number.result _ c.in_ok-read.ensures, ← c.operators.ensures.0) (handed_on _ _ _ c.in_err-ask.ensures)))

pub returns-in_err-ask-2 : goal.returns-in_err-ask-2
returns-in_err-ask-2 c =
    rw (← c.wide-number.ensures.0)
    (left_unwritten _ _ _ _ c.from_residual-in_err-ask-2.ensures.1
    (rw (← call_asks _ _ c.wide-number.result _ c.in_ok-read.ensures, ← c.operators.ensures.0, ← c.atoms.ensures.0, ← c.bytes-needed.ensures)
    (handed_on _ _ _ c.in_err-ask-2.ensures ∙ goes_on _ _ _ c.in_ok-ask.ensures)))

pub show-requires : goal.show-requires
unfolding ask
show-requires c =
    let inside : ltb c.wide-number.result (length (task_of c.args.image.now).operators) ≡ true =
    rw (← c.operators.ensures.0) (asked_yes _ _ _ _ c.in_ok-ask.ensures) in
    let room : leb (mark_bytes (task_of c.args.image.now).atoms) (length c.args.marks.now) ≡ true =
    rw (← c.atoms.ensures.0, ← c.bytes-needed.ensures) (asked_yes _ _ _ _ c.in_ok-ask-2.ensures) in
    record {
      task = c.in_ok-read.ensures.task;
      clauses = c.in_ok-read.ensures.clauses;
      operator = ltb-true _ _ inside;
      marked = leb-true _ _ room;
    }

pub returns : goal.returns
returns c =
    rw (← c.wide-number.ensures.0)
    (c.show.ensures
    ∙ rw (← call_asks _ _ c.wide-number.result _ c.in_ok-read.ensures, ← c.operators.ensures.0, ← c.atoms.ensures.0, ← c.bytes-needed.ensures)
    (ap (written c.args.marks.now) (goes_on _ _ _ c.in_ok-ask-2.ensures ∙ goes_on _ _ _ c.in_ok-ask.ensures)))
