-- The bytes of the text are known before it is written.
use Rattle.std.proofs.Common.{arith}
use borrow.Author.Tests.{leb-true}
use Rattle.definitions.specs.Answer.{ask}
use Rattle.answer.proofs.Laws.{left_by, outcome_of, asked_yes}
use Rattle.clause.proofs.ReadLaws.{read_count}
use Rattle.dimacs.proofs.Calls.{text_not, text_done}
use Rattle.dimacs.proofs.write_read.Goals as goal

pub text_length-size-requires : goal.text_length-size-requires
text_length-size-requires c = read_count _ _ c.requires

pub returns-in_err-ask : goal.returns-in_err-ask
returns-in_err-ask c =
    outcome_of _ _ _ _ (left_by _ _ c.from_residual.ensures.1) (text_not _ _ _ _ c.text_length-size.ensures _ c.in_err-ask.ensures)

pub write_text-requires : goal.write_text-requires
unfolding ask
write_text-requires c =
    let room = leb-true _ _ (asked_yes _ _ _ _ c.in_ok-ask.ensures) in omega (arith, c.text_length-size.ensures)

pub returns : goal.returns
unfolding ask
returns c = text_done _ _ _ _ c.text_length-size.ensures (leb-true _ _ (asked_yes _ _ _ _ c.in_ok-ask.ensures)) c.write_text.ensures
