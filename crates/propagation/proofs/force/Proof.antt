-- `propagation::force`: the only open literal is added, or all literals of the row.
use mathlib.Core.Path.{◌≡◌, refl, sym, ◌∙◌, subst}
use mathlib.Core.Bool.{Bool, true, false}
use mathlib.Core.List.Memᴰ
use mathlib.Core.List.{List, [], ◌∷◌}
use Prim.Native.Nat.{ℕ, ◌*◌, ◌<◌}
use native.Mathlib.Omega.{arith}
use Rattle.definitions.specs.Literal.{fill, all_below}
use Rattle.definitions.specs.Clauses.{clause_of}
use Rattle.definitions.proofs.LiteralLaws.{below_at}
use Rattle.definitions.proofs.MarkBits.{mark_inside}
use Rattle.propagation.specs.declared.Pass.TheVariants.{Same}
use Rattle.propagation.specs.Walk.{set_of, RestKept, Adds, forced_of, Seeded}
use Rattle.propagation.proofs.Seeds.{grown_if, one_added}
use Rattle.propagation.proofs.Scans.{forced_all, forced_one}
use borrow.Author.Rules.{rules}
use Rattle.propagation.proofs.force.Statement.{statement}
use Rattle.propagation.proofs.force.Tie as tie

-- without an open literal: the start, and that all literals follow
abbrev start_all : tie.Then-first-eq-FILL → tie.Start
start_all t = t.before.before.before

all_of_row : (t : tie.Then-first-eq-FILL) → let a = (start_all t).args in forced_of a.row.now a.first ≡ clause_of a.row.now
unfolding fill
all_of_row t = forced_all _ _ t.if-first-eq-FILL.true

-- with one: the start, and that it follows
abbrev start_one : tie.Else-first-eq-FILL → tie.Start
start_one t = t.before.before.before

only : (t : tie.Else-first-eq-FILL) → let a = (start_one t).args in forced_of a.row.now a.first ≡ a.first ∷ []
unfolding fill
only t = forced_one _ _ t.if-first-eq-FILL.false

low : (t : tie.Else-first-eq-FILL) → let a = (start_one t).args in a.first < 2 * a.atoms
low t = below_at _ _ (rw (only t) at (start_one t).requires.1.low) _ (Memᴰ.head refl)

-- where it was added
abbrev one_of : tie.After-add → tie.Else-first-eq-FILL
one_of d = d.before.before.before

forced :
    (d : tie.After-add) (b : Bool) → d.add.result ≡ b → let a = (start_one (one_of d)).args in
    RestKept a.atoms a.marks.now d.add.new.marks
    × Seeded a.stops (set_of a.atoms a.marks.now) (forced_of a.row.now a.first) (set_of a.atoms d.add.new.marks) (grown_if b Same)
unfolding fill
forced d b e =
    let t = one_of d in
    let a = (start_one t).args in
    let p = (start_one t).requires in
    let ms = a.marks.now in
    let adds : Adds ms a.first d.add.new.marks b =
    subst (Adds ms a.first d.add.new.marks) e
    (subst (λ (x : ℕ). Adds ms x d.add.new.marks d.add.result) d.wide.ensures.0 d.add.ensures) in
    let r = one_added a.stops a.atoms ms d.add.new.marks a.first p.0.sound (low t) (p.1.opened t.if-first-eq-FILL.false) b adds in (
      r.0,
      subst (λ (x : List ℕ). Seeded a.stops (set_of a.atoms ms) x (set_of a.atoms d.add.new.marks) (grown_if b Same)) (sym (only t)) r.1,
    )

literals-requires : tie.Need-literals-requires
literals-requires c κs = search rules

seed-requires : tie.Need-seed-requires
seed-requires c κs =
    let l = c.before in
    let t = l.before in
    let s = start_all t in
    let low = subst (λ (x : List ℕ). all_below (2 * s.args.atoms) x ≡ true) (all_of_row t ∙ sym l.literals.ensures) s.requires.1.low in
    (s.requires.0, low)

same_length : tie.Need-shape_of-marks-then-first-eq-FILL
same_length c = search rules

returns : tie.Need-returns-then-first-eq-FILL
returns c =
    let d = c.before.before in
    let l = d.before.before in
    let t = l.before in
    let a = (start_all t).args in
    let s = set_of a.atoms a.marks.now in
    let s' = set_of a.atoms d.seed.new.marks in
    let same = l.literals.ensures ∙ sym (all_of_row t) in
    (d.seed.ensures.0, subst (λ (x : List ℕ). Seeded a.stops s x s' d.seed.result) same d.seed.ensures.1)

wide-requires : tie.Need-wide-requires
wide-requires c κs = search rules

add-requires : tie.Need-add-requires
add-requires c κs =
    let t = c.before.before in
    let p = (start_one t).requires in
    omega (arith, c.wide.ensures.0, mark_inside _ _ (low t), p.0.room)

same-length-2 : tie.Need-shape_of-marks-then-add
same-length-2 c = search rules

returns-2 : tie.Need-returns-then-add
unfolding grown_if
returns-2 c = forced c.before.before.before true c.if-add.true

same-length-3 : tie.Need-shape_of-marks
same-length-3 c = search rules

returns-3 : tie.Need-returns
unfolding grown_if
returns-3 c = forced c.before.before.before false c.if-add.false

pub force_spec : {M : Type 1} → statement M
force_spec =
    tie.close
    (tie.spec
    literals-requires
    seed-requires
    same_length
    returns
    wide-requires
    add-requires
    same-length-2
    returns-2
    same-length-3
    returns-3)
