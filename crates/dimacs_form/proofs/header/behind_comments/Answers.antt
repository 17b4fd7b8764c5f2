-- `dimacs_form::header::behind_comments`: a byte of a comment is passed; else the text is what is left (`comment_at`, `stops_at`).
use Rattle.std.proofs.Common.{◌≡◌, length, refl, sym, ◌∙◌, ap, drop, ◌+◌, arith}
use Rattle.dimacs_form.specs.Places.{behind_from}
use Rattle.dimacs_form.proofs.PlaceLaws.{comment_at, stops_at, no_stop}
use Rattle.dimacs_form.proofs.header.behind_comments.Goals as goal

pub loop-at-init : goal.loop-at-init
unfolding behind_from
loop-at-init c = refl

pub returns-then-stops : goal.returns-then-stops
returns-then-stops c =
    let l = c.loop-at in
    (omega arith, sym (stops_at c.args.text.now l.inside l.at (omega arith) (sym c.stops.ensures ∙ c.if-stops.true)) ∙ l.invariant)

pub loop-at-preserved : goal.loop-at-preserved
loop-at-preserved c =
    let l = c.loop-at in
    let text = c.args.text.now in
    ap (λ x. behind_from x (drop (l.at + 1) text)) c.goes_on-inside.ensures
    ∙ sym (comment_at text l.inside l.at (omega arith) (sym c.stops.ensures ∙ c.if-stops.false))
    ∙ l.invariant

pub returns : goal.returns
returns c =
    let l = c.loop-at in
    let end : length c.args.text.now ≡ l.at = omega arith in
    (omega arith, ap (λ n. drop n c.args.text.now) end ∙ sym (no_stop c.args.text.now l.inside l.at c.loop-at-test.false) ∙ l.invariant)
