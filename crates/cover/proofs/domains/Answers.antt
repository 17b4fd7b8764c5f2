-- `cover::domains`: the next two words are those of v's domain.
use Rattle.std.proofs.Common.{arith}
use Rattle.definitions.specs.Lists.{each}
use Rattle.definitions.proofs.Walks.{below_left}
use Rattle.writing.proofs.Writes.{write_start, write_same, write_two, write_end}
use Rattle.writing.proofs.Ranges.{range_each_end}
use Rattle.cover.specs.Domains.{domain_by}
use Rattle.cover.proofs.DomainLaws.{domains_next}
use Rattle.cover.proofs.domains.Goals as goal

pub loop-v-init : goal.loop-v-init
loop-v-init c =
    let a = c.args in
    (omega arith, write_same (below_left (each (domain_by a.sizes.now a.none.now)) a.count) write_start)

pub loop-v-preserved : goal.loop-v-preserved
loop-v-preserved c = (omega arith, write_two (write_same (domains_next _ _ c.loop-v.v _ (omega arith)) c.loop-v.invariant.1))

pub returns : goal.returns
returns c = write_end (write_same (range_each_end _ c.loop-v.v _ (omega arith)) c.loop-v.invariant.1)
