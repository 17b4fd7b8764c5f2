-- `dimacs_form::number::begins`: the first byte is from 49 to 57; an empty word has none.
use Rattle.std.proofs.Common.{rules, arith, length, sym, ◌∙◌}
use borrow.Author.Tests.{eqb-true}
use lib.ListN.{get_or-eq_default}
use Rattle.dimacs_form.specs.Numbers.{begins}
use Rattle.dimacs_form.proofs.number.begins.Goals as goal

pub returns-then-not-is_empty : goal.returns-then-not-is_empty
unfolding begins
returns-then-not-is_empty c = search rules

pub returns-else-not-is_empty : goal.returns-else-not-is_empty
unfolding begins
returns-else-not-is_empty c =
    let word = c.args.word.now in
    let none = eqb-true (length word) 0 (sym c.is_empty.ensures ∙ c.if-not-is_empty.false) in
    rw (c.if-not-is_empty.false, get_or-eq_default word 0 {n = 0} (omega (arith, none)))
