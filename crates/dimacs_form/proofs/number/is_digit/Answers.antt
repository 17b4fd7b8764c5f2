-- `dimacs_form::number::is_digit`: from 48 to 57.
use Rattle.std.proofs.Common.{rules}
use Rattle.definitions.specs.Dimacs.{is_digit}
use Rattle.dimacs_form.proofs.number.is_digit.Goals as goal

pub returns : goal.returns
unfolding is_digit
returns c = search rules
