-- `writing::directory::size`: the sum of the lengths, each of which is a word.
use Rattle.std.proofs.Common.{◌≡◌, rules, arith, ◌∙◌}
use Rattle.std.proofs.lemmas.Iterator.{YieldsList-from_slice, YieldsList-from_map}
use Rattle.std.proofs.lemmas.Iterator.Consumers.{sum_from_yields_List}
use Rattle.writing.specs.Directory.{sum, size_of}
use Rattle.writing.proofs.DirectoryLaws.{words_sum, sum_most}
use Rattle.writing.proofs.directory.size.Goals as goal

total : (c : goal.After-sum-words) → c.sum-words.result ≡ sum c.args.lengths.now
total c =
    sum_from_yields_List c.map.result _ c.sum-words.ensures.ran
    (YieldsList-from_map _ (λ x. x) (YieldsList-from_slice c.args.lengths.now cc) (cc) (λ x r q k. search rules))
    ∙ words_sum c.args.lengths.now

pub overflow_add-result-2 : goal.overflow_add-result-2
overflow_add-result-2 c = let most = sum_most c.args.lengths.now (λ k. (c.type_inv.lengths k).fits) in omega (arith, total c)

pub returns : goal.returns
unfolding size_of
returns c = omega (arith, total c)
