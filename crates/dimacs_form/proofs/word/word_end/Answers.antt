-- `dimacs_form::word::word_end`: the bytes passed are a word, which ends at a blank or at the end of the text.
use Rattle.std.proofs.Common.{◌≡◌, length, arith, refl, sym, ◌∙◌}
use Rattle.dimacs_form.proofs.PlaceLaws.{begins_at, goes_on_at, ends_at, last_at}
use Rattle.dimacs_form.proofs.word.word_end.Goals as goal

pub loop-i-init : goal.loop-i-init
loop-i-init c = let p = c.requires in begins_at _ _ p.1 (p.0.word p.1)

pub returns-then-is_blank : goal.returns-then-is_blank
returns-then-is_blank c =
    let text = c.args.text.now in
    record {
      later = omega arith;
      inside = omega arith;
      word = ends_at text c.args.at c.loop-i.i (omega arith) (omega arith) c.loop-i.invariant (sym c.is_blank.ensures ∙ c.if-is_blank.true);
    }

pub loop-i-preserved : goal.loop-i-preserved
loop-i-preserved c =
    goes_on_at c.args.text.now c.args.at c.loop-i.i (omega arith) (omega arith) (sym c.is_blank.ensures ∙ c.if-is_blank.false) c.loop-i.invariant

pub returns : goal.returns
returns c =
    let text = c.args.text.now in
    let end : c.loop-i.i ≡ length text = omega arith in
    record {
      later = omega arith;
      inside = omega arith;
      word = last_at text c.args.at (length text) (omega arith) refl (rw end at c.loop-i.invariant);
    }
