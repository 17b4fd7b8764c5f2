-- The questions in order.
use Rattle.std.proofs.Common.{◌∙◌, ap, arith}
use borrow.Author.Tests.{leb-true}
use Rattle.definitions.specs.Answer.{ask}
use Rattle.definitions.specs.Marks.{mark_bytes}
use Rattle.answer.proofs.Laws.{left_by, handed_on, goes_on, asked_yes}
use Rattle.clause.proofs.ReadLaws.{read_count}
use Rattle.checker.proofs.Checking.{check_both, check_asks, read_of_both}
use Rattle.checker.proofs.accept.Goals as goal

pub returns-in_err-read : goal.returns-in_err-read
returns-in_err-read c = left_by _ _ c.from_residual.ensures.1 ∙ check_both _ _ _ _ c.in_err-read.ensures

pub returns-in_err-ask : goal.returns-in_err-ask
returns-in_err-ask c =
    left_by _ _ c.from_residual-in_err-ask.ensures.1
    ∙ rw (← check_asks _ _ _ c.in_ok-read.ensures, ← (c.bytes-needed.ensures ∙ ap mark_bytes c.atoms-atoms.ensures.0)) (handed_on _ _ _ c.in_err-ask.ensures)

pub check_initial-requires : goal.check_initial-requires
check_initial-requires c = read_of_both _ _ c.in_ok-read.ensures _ c.atoms-atoms.ensures.0 c.atoms-atoms.ensures.1

pub returns-in_err-check_initial : goal.returns-in_err-check_initial
returns-in_err-check_initial c =
    left_by _ _ c.from_residual-in_err-check_initial.ensures.1
    ∙ rw (← check_asks _ _ _ c.in_ok-read.ensures, ← (c.bytes-needed.ensures ∙ ap mark_bytes c.atoms-atoms.ensures.0))
    (handed_on _ _ _ c.in_err-check_initial.ensures ∙ goes_on _ _ _ c.in_ok-ask.ensures)

pub check_kept-requires : goal.check_kept-requires
unfolding ask
check_kept-requires c =
    let read = read_of_both _ _ c.in_ok-read.ensures _ c.atoms-atoms.ensures.0 c.atoms-atoms.ensures.1 in (
      read,
      leb-true _ _ (rw (← c.bytes-needed.ensures) (asked_yes _ _ _ _ c.in_ok-ask.ensures)),
      omega (arith, read_count _ _ read.clauses, c.flags_room-fails.ensures),
    )

pub returns : goal.returns
returns c =
    rw (← check_asks _ _ _ c.in_ok-read.ensures, ← (c.bytes-needed.ensures ∙ ap mark_bytes c.atoms-atoms.ensures.0))
    (c.check_kept.ensures ∙ goes_on _ _ _ c.in_ok-check_initial.ensures ∙ goes_on _ _ _ c.in_ok-ask.ensures)
