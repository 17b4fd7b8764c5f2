-- `dimacs_form::plain`: by the sign.
use Rattle.dimacs_form.specs.Form.{plain_of}
use Rattle.dimacs_form.proofs.plain.Goals as goal

pub returns-then-n : goal.returns-then-n
unfolding plain_of
returns-then-n c = rw c.if-n.true

pub returns : goal.returns
unfolding plain_of
returns c = rw c.if-n.false
