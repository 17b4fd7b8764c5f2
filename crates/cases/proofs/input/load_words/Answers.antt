use Rattle.cases.specs.Case.{words_from}
use Rattle.cases.proofs.Laws.{fill_next, fill_end}
use Rattle.cases.proofs.input.load_words.Goals as goal

pub loop-i-preserved : goal.loop-i-preserved
loop-i-preserved c = fill_next c.loop-i.invariant _ c.loop-i-test.true c.value.ensures

pub returns : goal.returns
unfolding words_from
returns c = fill_end c.loop-i.invariant c.loop-i-test.false
