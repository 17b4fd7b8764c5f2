-- `propagation::is_open`: a word that is no fill, by the mark of its complement.
use mathlib.Core.Path.{ap}
use mathlib.Core.Bool.{not}
use native.Mathlib.Omega.{arith}
use borrow.Author.Tests.{eq-eqb, ne_eqb}
use Rattle.definitions.specs.Literal.{fill}
use Rattle.propagation.specs.Walk.{open_word}
use Rattle.propagation.proofs.is_open.Goals as goal

pub is_false-requires : goal.is_false-requires
unfolding fill
is_false-requires c = (omega arith, c.requires c.if-word-ne-FILL.true)

pub returns-then-word-ne-FILL : goal.returns-then-word-ne-FILL
unfolding open_word fill
returns-then-word-ne-FILL c = rw (ne_eqb _ fill c.if-word-ne-FILL.true) (ap not c.is_false.ensures)

pub returns-else-word-ne-FILL : goal.returns-else-word-ne-FILL
unfolding open_word fill
returns-else-word-ne-FILL c = rw (eq-eqb _ fill c.if-word-ne-FILL.false)
