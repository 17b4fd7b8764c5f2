-- Each answer by what is noted (proofs/Calls.antt).
use Rattle.std.proofs.Common.{◌∙◌, ap}
use Rattle.definitions.specs.Answer.{finding, ask}
use Rattle.answer.proofs.Laws.{left_by, outcome_of, handed_on, goes_on, asked_yes}
use Rattle.answer.proofs.ReaderCalls.{stays, done}
use Rattle.fdr.specs.Change.{applied}
use Rattle.fdr.proofs.Calls.{low_block, blank_size, free_is, nones_asked, nones_are, writes, rows_done}
use Rattle.fdr.proofs.apply.Goals as goal

pub note-free-requires : goal.note-free-requires
note-free-requires c = (low_block _ _ _ _ c.requires, blank_size _ _ _ _ c.requires)

pub returns-in_err-ask : goal.returns-in_err-ask
unfolding applied
returns-in_err-ask c = (
  outcome_of _ _ _ _ (left_by _ _ c.from_residual.ensures.1)
      (stays _ _ _ (rw (← free_is _ _ _ _ c.requires _ _ c.note-free.ensures.0) (handed_on _ _ _ c.in_err-ask.ensures))),
  c.note-free.ensures.1,
)

pub are_nones_there-there-requires : goal.are_nones_there-there-requires
unfolding ask
are_nones_there-there-requires c =
    nones_asked _ _ _ _ c.requires _ _ c.note-free.ensures.0 (asked_yes _ _ _ _ c.in_ok-ask.ensures) _ c.domains-domains.ensures

pub returns-in_err-ask-2 : goal.returns-in_err-ask-2
unfolding applied ask
returns-in_err-ask-2 c =
    let free = asked_yes _ _ _ _ c.in_ok-ask.ensures in (
      outcome_of _ _ _ _ (left_by _ _ c.from_residual-in_err-ask-2.ensures.1)
          (stays _ _ _
          (rw (
            ← free_is _ _ _ _ c.requires _ _ c.note-free.ensures.0,
            ← nones_are _ _ _ _ c.requires _ _ c.note-free.ensures.0 free _ c.domains-domains.ensures c.note-free.ensures.1 _ c.are_nones_there-there.ensures,
          )
          (handed_on _ _ _ c.in_err-ask-2.ensures ∙ goes_on _ _ _ c.in_ok-ask.ensures))),
      c.note-free.ensures.1,
    )

pub write-requires : goal.write-requires
unfolding ask
write-requires c =
    writes _ _ _ _ c.requires _ _ c.note-free.ensures.0 (asked_yes _ _ _ _ c.in_ok-ask.ensures) _ c.domains-domains.ensures

pub returns : goal.returns
unfolding applied ask
returns c =
    let free = asked_yes _ _ _ _ c.in_ok-ask.ensures in (
      done _ _ _
          (rw (
            ← free_is _ _ _ _ c.requires _ _ c.note-free.ensures.0,
            ← nones_are _ _ _ _ c.requires _ _ c.note-free.ensures.0 free _ c.domains-domains.ensures c.note-free.ensures.1 _ c.are_nones_there-there.ensures,
          )
          (ap finding (rows_done _ _ _ _ c.requires _ _ c.note-free.ensures.0 free _ c.domains-domains.ensures c.note-free.ensures.1 _ c.write.ensures)
          ∙ goes_on _ _ _ c.in_ok-ask-2.ensures ∙ goes_on _ _ _ c.in_ok-ask.ensures)),
      c.note-free.ensures.1,
    )
