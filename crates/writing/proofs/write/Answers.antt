-- `writing::write`: what is written in the end are the items, and the rest is as it was.
use Rattle.std.proofs.Common.{ap, arith, ◌∙◌, ◌+◌, set}
use Rattle.std.proofs.Math.Seq.{paste}
use Rattle.std.proofs.lemmas.List.Edits.{paste_more}
use Rattle.writing.proofs.Writes.{copied_wrote}
use Rattle.writing.proofs.write.Goals as goal

pub loop-i-preserved : goal.loop-i-preserved
loop-i-preserved g c =
    let place = c.args.at + c.loop-i.i in
    ap (λ t. set t place c.index-items-i.result) c.loop-i.invariant
    ∙ ap (λ x. set (paste c.args.target.now c.args.at c.args.items.now c.loop-i.i) place x) c.index-items-i.is
    ∙ paste_more _ _ _ _ _ (omega (arith, c.requires, c.loop-i-test.true)) c.loop-i-test.true

pub returns : goal.returns
returns g c =
    rw c.loop-i.invariant
    (copied_wrote _ _ _ _ (omega (arith, c.loop-i-test.false, c.loop-i.auto.i-end)) c.requires)
