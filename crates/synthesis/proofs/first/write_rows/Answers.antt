-- `synthesis::first::write_rows`: the initial state, rows of fill, then the literals.
use mathlib.Core.Path.{◌≡◌, sym, ◌∙◌, ap, subst}
use mathlib.Core.List.{List}
use Prim.Native.Nat.{ℕ, ◌*◌}
use native.Mathlib.Omega.{arith}
use borrow.Author.Rules.{rules}
use lib.ListN.{length}
use Rattle.definitions.specs.Literal.{fill}
use Rattle.definitions.specs.Clauses.{width, clause_words}
use Rattle.task.specs.Reads.{task_of}
use Rattle.judge.proofs.Parts.{came_back}
use Rattle.synthesis.specs.Rounds.{units_from}
use Rattle.synthesis.proofs.Units.{filled, state_right, units_first}
use Rattle.synthesis.proofs.first.write_rows.Goals as goal

pub write_units-requires : goal.write_units-requires
unfolding fill
write_units-requires c =
    let atoms = c.atoms-atoms.result in
    let state = c.write_initial.new.state in
    let came = came_back atoms c.state-state.result state (omega (arith, c.state-state.ensures, c.atoms-atoms.ensures.1)) c.write_initial.auto.state in
    let rows : length c.args.words.now ≡ width * atoms = c.requires.1 ∙ ap (λ (k : ℕ). width * k) (sym c.atoms-atoms.ensures.0) in (
      rw came.part (omega (arith, came.size, c.atoms-atoms.ensures.1)),
      rw came.part (state_right (task_of c.args.image.now) state c.write_initial.ensures),
      rw came.part (filled c.args.words.now c.fill.new.self atoms (length state) rows came.size (c.fill.ensures.after (λ y h. search rules))),
    )

pub returns : goal.returns
returns c =
    let atoms = c.atoms-atoms.result in
    let state = c.write_initial.new.state in
    let came = came_back atoms c.state-state.result state (omega (arith, c.state-state.ensures, c.atoms-atoms.ensures.1)) c.write_initial.auto.state in
    let rows = c.write_units.new.words in
    units_first (task_of c.args.image.now) state rows c.write_initial.ensures
    (subst (λ (z : List ℕ). rows ≡ clause_words (units_from z 0 (length z))) came.part c.write_units.ensures)
