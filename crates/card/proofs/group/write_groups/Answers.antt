-- `card::group::write_groups`: the line of group v is the next one to be written.
use Rattle.card.proofs.LineLaws.{groups_begun, group_room, group_written, groups_written}
use Rattle.card.proofs.group.write_groups.Goals as goal

pub loop-v-init : goal.loop-v-init
loop-v-init c = groups_begun _ _ _

pub write_group-to-requires : goal.write_group-to-requires
write_group-to-requires c = group_room _ _ _ _ c.requires.0 c.loop-v.invariant c.loop-v-test.true c.requires.1

pub loop-v-preserved : goal.loop-v-preserved
loop-v-preserved c = group_written _ _ _ _ c.requires.0 c.loop-v.invariant c.loop-v-test.true c.write_group-to.ensures

pub returns : goal.returns
returns c = groups_written _ _ _ _ c.requires.0 c.loop-v.invariant c.loop-v-test.false
