-- The questions of the image, then 18.
use Rattle.std.proofs.Common.{◌∙◌, ap, ℕ}
use Rattle.definitions.specs.Literal.{is_state}
use Rattle.answer.proofs.Laws.{left_by}
use Rattle.answer.proofs.ReaderCalls.{first_refused, first_asked}
use Rattle.task.proofs.Questions.{reads}
use Rattle.state.specs.Post.{task_reader}
use Rattle.state.proofs.read_state.Goals as goal

pub returns-in_err-read : goal.returns-in_err-read
returns-in_err-read c = left_by _ _ c.from_residual.ensures.1 ∙ first_refused task_reader _ _ _ c.in_err-read.ensures

pub atoms-requires : goal.atoms-requires
atoms-requires c = reads _ c.in_ok-read.ensures

pub returns : goal.returns
returns c =
    c.ask.ensures
    ∙ first_asked task_reader _ _ _ (reads _ c.in_ok-read.ensures).found _
    (c.is_state-is_state.ensures ∙ ap (λ (n : ℕ). is_state n c.args.state.now) c.atoms.ensures.0)
