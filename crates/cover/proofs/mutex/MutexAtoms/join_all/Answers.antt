-- `MutexAtoms::join_all`: each atom joins the group that is chosen for it, and has room there.
use Rattle.std.proofs.Common.{ℕ, ◌<◌, ◌+◌, ◌*◌, ap, ◌∙◌, length, arith}
use Rattle.std.proofs.lemmas.List.{length-replicate}
use Rattle.definitions.specs.Literal.{most_atoms}
use Rattle.cover.proofs.Joining.{grouped_start, grouped_on, chosen_low}
use Rattle.cover.proofs.mutex.MutexAtoms.join_all.Goals as goal

pub loop-a-init : goal.loop-a-init
loop-a-init c = grouped_start _ _ _ most_atoms c.requires.1

pub loop-a-preserved : goal.loop-a-preserved
loop-a-preserved c =
    let p = c.requires in
    let low = chosen_low _ _ _ _ _ c.loop-a.invariant _ c.choose-group.ensures in
    let few = c.loop-a.invariant.few in
    let most = c.args.self.now.known.few in
    let zeros = ap length p.1 ∙ length-replicate {A = ℕ} most_atoms 0 in
    let place : 2 * c.loop-a.a + 1 < length c.loop-a.places = omega arith in
    let group : c.choose-group.result < length c.loop-a.sizes = omega arith in
    grouped_on _ _ _ _ _ c.loop-a.invariant _ c.choose-group.ensures _ _ _ place group c.enter.ensures.places c.enter.ensures.sizes c.max-count.ensures
