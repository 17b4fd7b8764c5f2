-- `propagation::scan_word`: a word is an open literal or not, and the first of its row or another.
use mathlib.Core.Path.{◌≡◌, sym, ◌∙◌}
use mathlib.Core.Bool.{false}
use Rattle.definitions.specs.Literal.{fill, complement}
use Rattle.definitions.specs.Marks.{marked}
use Rattle.propagation.proofs.Scans.{open_word_lem, shut_word}
use borrow.Author.Rules.{rules}
use Rattle.propagation.proofs.scan_word.Statement.{statement}
use Rattle.propagation.proofs.scan_word.Tie as tie

is-open-requires : tie.Need-is_open-requires
is-open-requires c κs = search rules

-- where it is an open literal
opened : (e : tie.Else-not-is_open) → let a = e.args in (a.word ≡ fill → ⊥) × (marked a.marks.now (complement a.word) ≡ false)
opened e = open_word_lem _ _ (sym e.is_open.ensures ∙ e.if-not-is_open.false)

returns : tie.Need-returns-then-not-is_open
returns c = shut_word _ _ (sym c.is_open.ensures ∙ c.if-not-is_open.true)

returns-2 : tie.Need-returns-then-first-ne-FILL
unfolding fill
returns-2 c = let o = opened c.before in (o.0, o.1, c.if-first-ne-FILL.true)

returns-3 : tie.Need-returns
unfolding fill
returns-3 c = let o = opened c.before in (o.0, o.1, c.if-first-ne-FILL.false)

pub scan_word_spec : {M : Type 1} → statement M
scan_word_spec = tie.close (tie.spec
    is-open-requires
    returns
    returns-2
    returns-3)
