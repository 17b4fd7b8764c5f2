-- `MutexAtoms::choose`: the lowest group that is not marked is the one that the atom joins.
use Rattle.std.proofs.Common.{refl, arith}
use Rattle.cover.proofs.Joining.{variable_low, chosen}
use Rattle.cover.proofs.mutex.MutexAtoms.choose.Goals as goal

pub mark_apart-requires : goal.mark_apart-requires
mark_apart-requires c =
    let p = c.requires in
    let few = c.args.self.now.known.few in
    let inside = p.0.inside in
    let n = p.1.count in
    let m = p.1.few in
    (p.0, (λ x h. (let v = variable_low _ _ _ p.1.placed x h in omega arith)), refl)

pub returns : goal.returns
returns c = chosen _ _ _ c.requires.1.placed _ _ _ c.mark_apart.ensures c.requires.1.count c.lowest.ensures
