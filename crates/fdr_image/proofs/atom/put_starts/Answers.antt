-- The sum grows by the values of the variable, and only its start is written.
use Rattle.std.proofs.Common.{arith, refl}
use Rattle.definitions.specs.FdrImage.{domains_in}
use Rattle.fdr_image.specs.Walk.{values_before}
use Rattle.fdr_image.proofs.Pairs.{domains_length}
use Rattle.fdr_image.proofs.Ranks.{starts_more, before_next, before_over, before_end}
use Rattle.fdr_image.proofs.atom.put_starts.Goals as goal

pub loop-v-init : goal.loop-v-init
unfolding values_before
loop-v-init c = (refl, λ u h. absurd (omega arith))

pub returns-then-atoms-sum : goal.returns-then-atoms-sum
returns-then-atoms-sum c =
    record {
      all_values =
          before_over (domains_in c.args.domains.now) c.loop-v.v _ _ (omega (arith, domains_length c.args.domains.now)) c.loop-v.invariant.0
          c.if-atoms-sum.true;
      begin = λ e. cc;
    }

pub bounds-starts-v : goal.bounds-starts-v
bounds-starts-v c = omega (arith, c.requires.variables, c.requires.size, domains_length c.args.domains.now)

pub atom_values-sum-requires : goal.atom_values-sum-requires
atom_values-sum-requires c = omega (arith, domains_length c.args.domains.now)

pub loop-v-preserved : goal.loop-v-preserved
loop-v-preserved c =
    let D = domains_in c.args.domains.now in (
      before_next D _ _ _ c.loop-v.invariant.0 c.atom_values-sum.ensures.0,
      starts_more D c.loop-v.starts c.loop-v.v _ (omega (arith, c.requires.variables, c.requires.size, domains_length c.args.domains.now)) c.loop-v.invariant.1
          c.loop-v.invariant.0,
    )

pub returns : goal.returns
returns c =
    record {
      all_values = before_end (domains_in c.args.domains.now) c.loop-v.v _ _ (omega (arith, domains_length c.args.domains.now)) c.loop-v.invariant.0;
      begin = λ e v h. c.loop-v.invariant.1 v (omega (arith, domains_length c.args.domains.now));
    }
