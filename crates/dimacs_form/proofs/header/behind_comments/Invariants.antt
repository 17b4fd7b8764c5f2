-- `dimacs_form::header::behind_comments`: what is left behind its comment lines is the same at each byte.
use Rattle.std.proofs.Common.{◌≡◌, drop}
use Rattle.definitions.specs.Dimacs.{behind_comments}
use Rattle.dimacs_form.specs.Places.{behind_from}
use Rattle.dimacs_form.proofs.header.behind_comments.Given as goal

abbrev pub invariant-loop-at : goal.invariant-loop-at
invariant-loop-at l = behind_from l.inside (drop l.at l.text) ≡ behind_comments l.text
