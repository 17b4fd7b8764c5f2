-- `cover::cover_marked`: the rows are right for the most atoms, the places of the atoms are low.
use Rattle.std.proofs.Common.{ℕ, ◌≡◌, ◌*◌, ap, ◌∙◌, length, arith}
use Rattle.std.proofs.lemmas.List.{length-replicate}
use Rattle.definitions.specs.Literal.{most_atoms}
use Rattle.cover.proofs.Covering.{wide_rows, within, places_low, covered}
use Rattle.cover.proofs.cover_marked.Goals as goal

pub mark_alone-requires : goal.mark_alone-requires
mark_alone-requires c = (wide_rows _ _ c.requires.0 c.requires.1.few, c.requires.1.few)

pub invariant_of-atoms : goal.invariant_of-atoms
invariant_of-atoms c =
    let few = c.requires.1.few in
    let same = c.mark_alone.ensures.1 in
    record { known = record { rows = wide_rows _ _ c.requires.0 few; marks = c.mark_alone.ensures.0; few = omega arith } }

pub omit_all-requires : goal.omit_all-requires
omit_all-requires c =
    let p = c.requires in
    let grouped = rw c.mark_alone.ensures.1 at c.join_all-count.ensures in
    let places : length c.join_all-count.new.places ≡ 2 * length c.args.alone.now = c.join_all-count.auto.places ∙ p.1.places in
    let low = places_low _ _ _ _ _ grouped places p.1.few in
    let n : length c.args.none.now ≡ most_atoms = ap length p.1.none ∙ length-replicate {A = ℕ} most_atoms 1 in
    (within _ _ p.0 _ places, λ i. (let h = low i in omega arith))

pub returns : goal.returns
returns c =
    let p = c.requires in
    let grouped = rw c.mark_alone.ensures.1 at c.join_all-count.ensures in
    let places : length c.join_all-count.new.places ≡ 2 * length c.args.alone.now = c.join_all-count.auto.places ∙ p.1.places in
    let sizes = c.join_all-count.auto.sizes ∙ ap length p.1.sizes ∙ length-replicate {A = ℕ} most_atoms 0 in
    let nones = c.omit_all.auto.none ∙ ap length p.1.none ∙ length-replicate {A = ℕ} most_atoms 1 in
    covered _ _ _ _ _ _ _ p.0 p.1.few grouped places sizes nones p.1.none c.omit_all.ensures
