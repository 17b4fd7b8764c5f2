-- `card::group::write_group`: atom a is the next one to be written; after the last comes the end of the line.
use Rattle.writing.proofs.Writes.{write_part, write_last}
use Rattle.card.proofs.LineLaws.{group_begun, member_given, member_written, group_end}
use Rattle.card.proofs.group.write_group.Goals as goal

pub loop-a-init : goal.loop-a-init
loop-a-init c = group_begun _ _ _

pub write_member-to-requires : goal.write_member-to-requires
write_member-to-requires c = member_given _ _ _ _ c.loop-a.invariant c.loop-a-test.true c.requires

pub loop-a-preserved : goal.loop-a-preserved
loop-a-preserved c = member_written _ _ _ _ c.loop-a.invariant c.loop-a-test.true c.write_member-to.ensures

pub returns : goal.returns
returns c = write_last (write_part (group_end _ _ _ _ c.loop-a.invariant c.loop-a-test.false) c.write_none-end.ensures) c.byte.ensures
