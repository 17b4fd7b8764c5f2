-- `propagation::propagate`: the literals are added, then what follows.
use mathlib.Core.Path.{◌≡◌, subst}
use mathlib.Core.Bool.{Bool}
use mathlib.Core.Logic.{◌⊎◌, inl, inr}
use mathlib.Core.List.{List, [], ◌∷◌}
use Prim.Native.Nat.{ℕ}
use native.Mathlib.Omega.{arith}
use denote.Enum.Declared.{tag_of}
use types.Run.{OneOf}
use Rattle.propagation.specs.declared.Pass.{Pass}
use Rattle.propagation.specs.declared.Pass.TheVariants.{Contradictory}
use Rattle.propagation.specs.contracts.Pass.{the_type}
use Rattle.propagation.specs.Walk.{set_of, Added, Seeded}
use Rattle.propagation.proofs.View.{rest_on}
use Rattle.propagation.proofs.Closed.{ready_on, seeded_added, propagate_clash, propagate_on}
use borrow.Author.Rules.{rules}
use Rattle.propagation.proofs.propagate.Statement.{statement}
use Rattle.propagation.proofs.propagate.Tie as tie

-- after the literals are added: the start, and what adding them did
abbrev seeded : Type 0
seeded = tie.After-seed-seeded

abbrev known : seeded → tie.After-shared_slice_known-2-1
known d = d.before.before.before

abbrev start : seeded → tie.Start
start d = (known d).before.before

abbrev literals : seeded → List ℕ
literals d = (start d).args.literals.now

abbrev atoms : seeded → ℕ
atoms d = (start d).args.atoms

abbrev stops : seeded → Bool
stops d = (start d).args.stops

abbrev set_first : seeded → List ℕ
set_first d = set_of (atoms d) (start d).args.marks.now

abbrev marks_after : seeded → List ℕ
marks_after d = d.seed-seeded.new.marks

abbrev set_after : seeded → List ℕ
set_after d = set_of (atoms d) (marks_after d)

did : (d : seeded) (v : Pass) → d.seed-seeded.result ≡ v → Seeded (stops d) (set_first d) (literals d) (set_after d) v
did d v e = subst (λ (x : Pass). Seeded (stops d) (set_first d) (literals d) (set_after d) x) e d.seed-seeded.ensures.1

-- where its answer is looked at
abbrev seed_of : tie.After-slice_known-2-1 → seeded
seed_of c = c.before.before

abbrev going_on : tie.In_default → seeded
going_on m = seed_of m.before

-- an answer of the other two variants
not_met : (v : Pass) → OneOf (0 ∷ 1 ∷ []) (tag_of the_type v) → v ≡ Contradictory → ⊥
not_met v k e = none (subst (λ (x : Pass). OneOf (0 ∷ 1 ∷ []) (tag_of the_type x)) e k)
  where
    none : (◌≡◌ {A = ℕ} 2 0) ⊎ (◌≡◌ {A = ℕ} 2 1) → ⊥
    none (inl q) = omega arith
    none (inr q) = omega arith

added : (m : tie.In_default) → let d = going_on m in Added (stops d) (set_first d) (literals d) (set_after d)
added m =
    let d = going_on m in
    seeded_added (stops d) (set_first d) (literals d) (set_after d) d.seed-seeded.result (not_met d.seed-seeded.result m.in_default.in_default-own.keys2)
    (start d).requires.0.marks.sound d.seed-seeded.ensures.1

seed-requires : tie.Need-seed-seeded-requires
seed-requires c κs =
    let k = c.before.before in
    let s = k.before.before in
    (s.requires.0.marks, s.requires.1)

enum_told : tie.Need-enum_told-1
enum_told c = search rules

same_length : tie.Need-shape_of-marks-in-Contradictory
same_length c = search rules

returns : tie.Need-returns-in-Contradictory
returns c =
    let d = seed_of c.before in
    (d.seed-seeded.ensures.0, propagate_clash (stops d) _ (set_first d) (literals d) (set_after d) (did d Contradictory c.in-Contradictory.is))

saturate-requires : tie.Need-saturate-requires
saturate-requires c κs =
    let d = going_on c.before in
    ready_on _ _ _ _ _ (start d).requires.0 d.seed-seeded.ensures.0 (added c.before).sound

same-length-2 : tie.Need-shape_of-marks
same-length-2 c = search rules

returns-2 : tie.Need-returns
returns-2 c =
    let t = c.before.before in
    let m = t.before.before in
    let d = going_on m in
    let r = t.saturate in (
      rest_on _ _ (marks_after d) _ d.seed-seeded.ensures.0 r.ensures.0,
      propagate_on (stops d) _ (set_first d) (literals d) (set_after d) _ r.result (added m) r.ensures.1,
    )

pub propagate_spec : {M : Type 1} → statement M
propagate_spec = tie.close (tie.spec
    seed-requires
    enum_told
    same_length
    returns
    saturate-requires
    same-length-2
    returns-2)
