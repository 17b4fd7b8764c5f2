-- `dimacs_form::number::with_digit`: a digit is 48 or more.
use borrow.Author.Tests.{leb-true}
use lib.Dec.{leb}
use Rattle.definitions.specs.Dimacs.{is_digit}
use Rattle.definitions.proofs.ListLaws.{and_left}
use Rattle.dimacs_form.proofs.number.with_digit.Goals as goal

pub overflow_sub-b : goal.overflow_sub-b
unfolding is_digit
overflow_sub-b c = let b = c.args.b in leb-true 48 b (and_left (leb 48 b) (leb b 57) c.requires)
