-- Question 17, then the length of the state.
use Rattle.std.proofs.Common.{◌∙◌, ap, sym, arith}
use borrow.Author.Tests.{eqb-true}
use Rattle.definitions.specs.Answer.{ask, finding}
use Rattle.definitions.specs.FdrStep.{start_fdr}
use Rattle.answer.proofs.Laws.{left_by, outcome_of, handed_on, goes_on, asked_yes}
use Rattle.answer.proofs.ReaderCalls.{start_refused, stays, done}
use Rattle.writing.proofs.Writes.{wrote_all}
use Rattle.fdr_image.proofs.Reading.{reads}
use Rattle.fdr.specs.Post.{fdr_reader}
use Rattle.fdr.proofs.Calls.{initial_fits}
use Rattle.fdr.proofs.set_initial.Goals as goal

pub returns-in_err-read : goal.returns-in_err-read
unfolding start_fdr
returns-in_err-read c =
    outcome_of _ _ _ _ (left_by _ _ c.from_residual.ensures.1) (start_refused fdr_reader _ _ _ c.in_err-read.ensures)

pub variables-requires : goal.variables-requires
variables-requires c = reads _ c.in_ok-read.ensures

pub returns-in_err-ask : goal.returns-in_err-ask
unfolding start_fdr
returns-in_err-ask c =
    outcome_of _ _ _ _ (left_by _ _ c.from_residual-in_err-ask.ensures.1)
    (stays _ _ _
    (rw (← c.variables.ensures.0) (handed_on _ _ _ c.in_err-ask.ensures) ∙ goes_on _ _ _ (sym (reads _ c.in_ok-read.ensures).found)))

pub initial-requires : goal.initial-requires
initial-requires c = reads _ c.in_ok-read.ensures

pub write-requires : goal.write-requires
unfolding ask
write-requires c =
    let same = eqb-true _ _ (asked_yes _ _ _ _ c.in_ok-ask.ensures) in
    let e = initial_fits _ (reads _ c.in_ok-read.ensures) _ _ _ c.variables.ensures.0 same c.initial.ensures in
    omega (arith, e)

pub returns : goal.returns
unfolding start_fdr ask
returns c =
    let rd = reads _ c.in_ok-read.ensures in
    let same = eqb-true _ _ (asked_yes _ _ _ _ c.in_ok-ask.ensures) in
    let fits = initial_fits _ rd _ _ _ c.variables.ensures.0 same c.initial.ensures in
    done _ _ _
    (ap finding (wrote_all fits c.write.ensures ∙ c.initial.ensures)
    ∙ (rw (← c.variables.ensures.0) (goes_on _ _ _ c.in_ok-ask.ensures) ∙ goes_on _ _ _ (sym rd.found)))
