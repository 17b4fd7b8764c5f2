-- `MutexAtoms::mark_apart`: the groups of the atoms below b are marked, and that of b is where it must be.
use Rattle.std.proofs.Common.{ℕ, ◌<◌, ◌≡◌, length, ap, ◌∙◌, arith}
use Rattle.std.proofs.lemmas.List.{length-replicate}
use Rattle.definitions.specs.Literal.{most_atoms}
use Rattle.cover.proofs.Joining.{apart_start, apart_on}
use Rattle.cover.proofs.mutex.MutexAtoms.mark_apart.Goals as goal

pub loop-b-init : goal.loop-b-init
loop-b-init c = apart_start _ _ _ _ most_atoms c.requires.2

pub loop-b-preserved : goal.loop-b-preserved
loop-b-preserved c =
    let low = c.requires.1 c.loop-b.b c.loop-b-test.true in
    let zeros : length c.args.apart.now ≡ most_atoms = ap length c.requires.2 ∙ length-replicate {A = ℕ} most_atoms 0 in
    let inside : c.wide-group.result < length c.loop-b.apart = omega arith in
    apart_on _ _ _ c.loop-b.b _ _ _ _ c.loop-b.invariant c.is_mutex-mutex.ensures c.wide-group.ensures.0 inside c.mark_if.ensures
