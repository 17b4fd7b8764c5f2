-- The questions in order, then the first set and the rounds.
use Rattle.std.proofs.Common.{◌∙◌, sym}
use Rattle.definitions.specs.Answer.{ask}
use Rattle.answer.proofs.Laws.{asked_yes}
use Rattle.task.proofs.Questions.{reads}
use Rattle.synthesis.proofs.Calls.{left_call, call_read, call_limits, call_buffers}
use Rattle.synthesis.proofs.synthesize.Goals as goal

pub returns-in_err-read : goal.returns-in_err-read
returns-in_err-read c = left_call _ _ _ _ c.from_residual.ensures.1 (call_read _ _ _ _ _ _ _ c.in_err-read.ensures)

pub returns-in_err-ask : goal.returns-in_err-ask
returns-in_err-ask c =
    left_call _ _ _ _ c.from_residual-in_err-ask.ensures.1
    (call_limits _ _ _ _ _ _ (reads _ c.in_ok-read.ensures) _
    (rw (← c.wide-literals.ensures.0, ← c.wide-most.ensures.0, ← c.are_limits.ensures) c.in_err-ask.ensures))

pub atoms-atoms-requires : goal.atoms-atoms-requires
atoms-atoms-requires c = reads _ c.in_ok-read.ensures

pub returns-in_err-ask-2 : goal.returns-in_err-ask-2
unfolding ask
returns-in_err-ask-2 c =
    left_call _ _ _ _ c.from_residual-in_err-ask-2.ensures.1
    (call_buffers _ _ _ _ _ _ (reads _ c.in_ok-read.ensures)
    (rw (← c.wide-literals.ensures.0, ← c.wide-most.ensures.0) (sym c.are_limits.ensures ∙ asked_yes _ _ _ _ c.in_ok-ask.ensures)) _
    (rw (← c.atoms-atoms.ensures.0, ← c.are_buffers-fit.ensures) c.in_err-ask-2.ensures))

pub start-requires : goal.start-requires
unfolding ask
start-requires c = record {
  task = reads _ c.in_ok-read.ensures;
  limits = sym c.are_limits.ensures ∙ asked_yes _ _ _ _ c.in_ok-ask.ensures;
  buffers = rw (← c.atoms-atoms.ensures.0) (sym c.are_buffers-fit.ensures ∙ asked_yes _ _ _ _ c.in_ok-ask-2.ensures);
}

pub returns : goal.returns
returns c = rw (← c.wide-literals.ensures.0, ← c.wide-most.ensures.0) c.start.ensures
