-- `dimacs_form::word::word_end`: the bytes passed are a word.
use Rattle.definitions.proofs.DimacsNumbers.{Word}
use Rattle.dimacs_form.specs.Places.{between}
use Rattle.dimacs_form.proofs.word.word_end.Given as goal

abbrev pub invariant-loop-i : goal.invariant-loop-i
invariant-loop-i l = Word (between l.at l.i l.text)
