-- `dimacs_form::word::skip_blanks`: the words that are left are the same at each blank.
use Rattle.std.proofs.Common.{◌≡◌, drop}
use Rattle.definitions.specs.Dimacs.{tokens}
use Rattle.dimacs_form.proofs.word.skip_blanks.Given as goal

abbrev pub invariant-loop-i : goal.invariant-loop-i
invariant-loop-i l = tokens (drop l.at l.text) ≡ tokens (drop l.i l.text)
