-- `clause_set::words::fill`: the rest is written.
use borrow.Author.Rules.{rules}
use Rattle.clause_set.proofs.Buffers.{filled}
use Rattle.clause_set.proofs.words.fill.Goals as goal

pub returns : goal.returns
returns c = filled c.args.at c.args.words.now _ c.args.word (c.fill.ensures.after (λ y h. search rules))
