-- `literal::is_atom_list`: what is left to test at a word is the whole test's answer.
use Rattle.std.proofs.Common.{◌≡◌, ◌&&◌, drop}
use Rattle.definitions.specs.Lists.{ascending}
use Rattle.definitions.specs.Literal.{all_below}
use Rattle.literal.proofs.Ascends.{ascends, next_atom}
use Rattle.literal.proofs.is_atom_list.Given as goal

abbrev pub invariant-loop-word : goal.invariant-loop-word
invariant-loop-word l = (ascending l.words && all_below l.atoms l.words) ≡ ascends next_atom l.atoms l.from (drop l.word-index l.words)
