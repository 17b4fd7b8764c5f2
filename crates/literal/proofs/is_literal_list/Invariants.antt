-- `literal::is_literal_list`: what is left to test at a word is the whole test's answer.
use Rattle.std.proofs.Common.{◌≡◌, ◌*◌, drop}
use Rattle.definitions.specs.Literal.{literal_list}
use Rattle.literal.proofs.Ascends.{ascends, next_literal}
use Rattle.literal.proofs.is_literal_list.Given as goal

abbrev pub invariant-loop-word : goal.invariant-loop-word
invariant-loop-word l = literal_list l.atoms l.words ≡ ascends next_literal (2 * l.atoms) l.from (drop l.word-index l.words)
