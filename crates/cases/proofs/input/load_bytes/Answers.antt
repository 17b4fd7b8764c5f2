use Rattle.std.proofs.Common.{ap, ◌%◌}
use Rattle.cases.specs.Case.{byte_at, bytes_from}
use Rattle.cases.proofs.Laws.{fill_next, fill_end}
use Rattle.cases.proofs.input.load_bytes.Goals as goal

pub loop-i-preserved : goal.loop-i-preserved
unfolding byte_at
loop-i-preserved c = fill_next c.loop-i.invariant _ c.loop-i-test.true (ap (λ x. x % 256) c.value.ensures)

pub returns : goal.returns
unfolding bytes_from
returns c = fill_end c.loop-i.invariant c.loop-i-test.false
