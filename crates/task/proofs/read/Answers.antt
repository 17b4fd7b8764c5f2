-- The size, the counts, then the parts.
use Rattle.std.proofs.Common.{◌∙◌, sym}
use Rattle.definitions.specs.Answer.{ask}
use Rattle.answer.proofs.Laws.{left_by, handed_on, goes_on, asked_yes}
use Rattle.task.proofs.Questions.{size_room, read_asks}
use Rattle.task.proofs.read.Goals as goal

pub returns-in_err-ask : goal.returns-in_err-ask
returns-in_err-ask c =
    left_by _ _ c.from_residual.ensures.1
    ∙ rw (← read_asks c.args.image.now, ← c.is_size.ensures) (handed_on _ _ _ c.in_err-ask.ensures)

pub are_counts-requires : goal.are_counts-requires
unfolding ask
are_counts-requires c = size_room _ (sym c.is_size.ensures ∙ asked_yes _ _ _ _ c.in_ok-ask.ensures)

pub returns-in_err-ask-2 : goal.returns-in_err-ask-2
returns-in_err-ask-2 c =
    left_by _ _ c.from_residual-in_err-ask-2.ensures.1
    ∙ rw (← read_asks c.args.image.now, ← c.is_size.ensures, ← c.are_counts.ensures)
    (handed_on _ _ _ c.in_err-ask-2.ensures ∙ goes_on _ _ _ c.in_ok-ask.ensures)

pub read_parts-requires : goal.read_parts-requires
unfolding ask
read_parts-requires c = (
  size_room _ (sym c.is_size.ensures ∙ asked_yes _ _ _ _ c.in_ok-ask.ensures),
  sym c.are_counts.ensures ∙ asked_yes _ _ _ _ c.in_ok-ask-2.ensures,
)

pub returns : goal.returns
returns c =
    rw (← read_asks c.args.image.now, ← c.is_size.ensures, ← c.are_counts.ensures)
    (c.read_parts.ensures ∙ goes_on _ _ _ c.in_ok-ask-2.ensures ∙ goes_on _ _ _ c.in_ok-ask.ensures)
