use Rattle.std.proofs.Common.{arith, ◌∙◌}
use Rattle.cases.proofs.Laws.{values_end, words_listed}
use Rattle.cases.proofs.input.load_list.Goals as goal

pub load_words-requires : goal.load_words-requires
load_words-requires c =
    let from = c.start.ensures in
    let count = c.stored.ensures in
    let within = c.requires in
    let e = values_end c.args.words.now c.args.at c.args.k (omega arith) (omega arith) in
    omega arith

pub returns : goal.returns
returns c = c.load_words.ensures ∙ words_listed _ _ _ _ _ _ c.start.ensures c.stored.ensures
