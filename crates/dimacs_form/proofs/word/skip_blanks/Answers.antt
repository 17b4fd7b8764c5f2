-- `dimacs_form::word::skip_blanks`: a blank is no part of a word.
use Rattle.std.proofs.Common.{sym, ◌∙◌}
use Rattle.dimacs_form.proofs.PlaceLaws.{blank_at}
use Rattle.dimacs_form.proofs.word.skip_blanks.Goals as goal

pub loop-i-preserved : goal.loop-i-preserved
loop-i-preserved c = c.loop-i.invariant ∙ blank_at _ _ c.loop-i-test.true (sym c.is_blank.ensures ∙ c.if-not-is_blank.false)
