-- Each way through the loop is a law of the walk over the ranks.
use Rattle.std.proofs.Common.{arith, refl, sym, ◌∙◌}
use Rattle.fdr_image.specs.Walk.{no_marks, ranks_in}
use Rattle.fdr_image.proofs.Ranks.{new_off, new_on, new_end, ranks_length}
use Rattle.fdr_image.proofs.atom.are_new.Goals as goal

pub loop-i-init : goal.loop-i-init
unfolding no_marks
loop-i-init c = refl

pub returns-then-marks-rank-ne0 : goal.returns-then-marks-rank-ne0
returns-then-marks-rank-ne0 c =
    let ks = ranks_in c.args.starts.now c.args.atoms.now in
    sym (c.loop-i.invariant ∙ new_off c.loop-i.marks ks c.loop-i.i _ (omega (arith, ranks_length c.args.starts.now c.args.atoms.now))
    c.rank_of-rank.ensures.0 c.if-marks-rank-ne0.true)

pub loop-i-preserved : goal.loop-i-preserved
loop-i-preserved c =
    let ks = ranks_in c.args.starts.now c.args.atoms.now in
    c.loop-i.invariant ∙ new_on c.loop-i.marks ks c.loop-i.i _ (omega (arith, ranks_length c.args.starts.now c.args.atoms.now))
    c.rank_of-rank.ensures.0 c.if-marks-rank-ne0.false

pub returns : goal.returns
returns c =
    let ks = ranks_in c.args.starts.now c.args.atoms.now in
    sym (c.loop-i.invariant ∙ new_end _ ks c.loop-i.i (omega (arith, ranks_length c.args.starts.now c.args.atoms.now)))
