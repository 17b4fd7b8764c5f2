-- `synthesis::first::write_units`: the literal of the atom is written into its row.
use mathlib.Core.Path.{◌≡◌, sym, ◌∙◌, ap}
use Prim.Native.Nat.{ℕ, ◌*◌}
use native.Mathlib.Omega.{arith}
use native.Mathlib.Nat.{mul-zero}
use lib.ListN.{length, set, length-replicate}
use Rattle.definitions.specs.Literal.{fill}
use Rattle.definitions.specs.Clauses.{width}
use Rattle.synthesis.proofs.Units.{unit_word, units_start, units_row}
use Rattle.synthesis.proofs.first.write_units.Goals as goal

pub loop-a-init : goal.loop-a-init
loop-a-init c = record { position = sym (mul-zero width); words = units_start c.args.state.now _ c.args.words.now c.requires.2 }

pub bounds-words-at : goal.bounds-words-at
unfolding width
bounds-words-at c =
    let size : length c.args.words.now ≡ width * length c.args.state.now = ap length c.requires.2 ∙ length-replicate _ fill in
    omega (arith, c.loop-a.auto.words, c.loop-a.invariant.position)

pub overflow_add-at : goal.overflow_add-at
unfolding width
overflow_add-at c = omega (arith, c.loop-a.invariant.position, c.requires.0)

pub loop-a-preserved : goal.loop-a-preserved
unfolding width
loop-a-preserved c =
    let s = c.args.state.now in
    let l = c.loop-a in
    let i = l.invariant in
    let literal = c.new.ensures ∙ unit_word s (length s) l.a c.requires.1 c.loop-a-test.true in
    record {
      position = omega (arith, i.position);
      words = ap (λ (x : ℕ). set l.words x c.new.result.code) i.position
          ∙ units_row s (length s) l.a l.words i.words c.new.result.code c.loop-a-test.true literal;
    }
