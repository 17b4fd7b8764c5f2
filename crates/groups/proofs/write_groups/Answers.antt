-- Question 16, then the words of the groups.
use Rattle.std.proofs.Common.{arith}
use borrow.Author.Tests.{leb-true}
use Rattle.definitions.specs.Answer.{ask}
use Rattle.answer.proofs.Laws.{left_unwritten, asked_yes}
use Rattle.cover.proofs.DomainLaws.{cover_length}
use Rattle.cover.proofs.Covering.{domained}
use Rattle.groups.proofs.Calls.{groups_not, groups_done}
use Rattle.groups.proofs.write_groups.Goals as goal

pub returns-in_err-ask : goal.returns-in_err-ask
returns-in_err-ask c =
    left_unwritten _ _ _ _ c.from_residual.ensures.1 (groups_not _ _ _ _ _ _ c.cover-count.ensures _ _ c.in_err-ask.ensures)

pub write-requires : goal.write-requires
unfolding ask
write-requires c =
    let g = c.cover-count in
    let room = leb-true _ _ (asked_yes _ _ _ _ c.in_ok-ask.ensures) in
    (domained _ _ _ _ _ _ g.ensures, omega (arith, g.ensures.places, cover_length g.new.places g.new.sizes g.new.none g.result))

pub returns : goal.returns
unfolding ask
returns c =
    groups_done _ _ _ _ _ _ c.cover-count.ensures _ (leb-true _ _ (asked_yes _ _ _ _ c.in_ok-ask.ensures)) c.write.ensures
