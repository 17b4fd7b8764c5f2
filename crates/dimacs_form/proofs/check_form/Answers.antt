-- `dimacs_form::check_form`: the comment lines, the header, then the numbers.
use Rattle.std.proofs.Common.{sym, ◌∙◌, drop, length-drop, arith}
use Rattle.dimacs_form.proofs.FormLaws.{headed_long, form_other, form_says}
use Rattle.dimacs_form.proofs.check_form.Goals as goal

pub returns-then-not-is_headed : goal.returns-then-not-is_headed
returns-then-not-is_headed c =
    let b = c.behind_comments-start in
    form_other c.args.atoms b.result c.args.text.now b.ensures.1 (sym c.is_headed.ensures ∙ c.if-not-is_headed.true)

pub skip_blanks-at-requires : goal.skip_blanks-at-requires
skip_blanks-at-requires c =
    let text = c.args.text.now in
    let r = c.behind_comments-start.result in
    omega (arith, headed_long (drop r text) (sym c.is_headed.ensures ∙ c.if-not-is_headed.false), length-drop r text)

pub returns : goal.returns
returns c =
    let b = c.behind_comments-start in
    form_says c.args.atoms b.result c.args.text.now b.ensures.1 _ (sym c.is_headed.ensures ∙ c.if-not-is_headed.false)
    c.skip_blanks-at.ensures c.counts.result c.counts.ensures
