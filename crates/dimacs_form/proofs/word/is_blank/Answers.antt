-- `dimacs_form::word::is_blank`: byte 32 or byte 10.
use Rattle.std.proofs.Common.{rules}
use borrow.Author.Tests.{ne_eqb}
use Rattle.definitions.specs.Dimacs.{blank}
use Rattle.dimacs_form.proofs.word.is_blank.Goals as goal

pub returns-then-b-eq32 : goal.returns-then-b-eq32
unfolding blank
returns-then-b-eq32 c = search rules

pub returns-else-b-eq32 : goal.returns-else-b-eq32
unfolding blank
returns-else-b-eq32 c = rw (ne_eqb c.args.b 32 c.if-b-eq32.false)
