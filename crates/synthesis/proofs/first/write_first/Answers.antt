-- `synthesis::first::write_first`: the first rows of the buffer.
use mathlib.Core.Path.{sym, ◌∙◌, ap}
use mathlib.Core.List.{◌++◌}
use Prim.Native.Nat.{ℕ, ◌*◌}
use native.Mathlib.Omega.{arith}
use lib.ListN.{drop}
use lib.Seq.{length-take-le}
use Rattle.definitions.specs.Clauses.{width, clause_words}
use Rattle.definitions.specs.Synthesis.{first_set}
use Rattle.task.specs.Reads.{task_of}
use Rattle.synthesis.proofs.first.write_first.Goals as goal

pub slice_bounds-write_rows-end : goal.slice_bounds-write_rows-end
unfolding width
slice_bounds-write_rows-end c = omega (arith, c.atoms.ensures.0, c.requires.1)

pub slice_bounds-write_rows-end-2 : goal.slice_bounds-write_rows-end-2
unfolding width
slice_bounds-write_rows-end-2 c = sym (length-take-le _ _ (omega (arith, c.atoms.ensures.0, c.requires.1)))

pub write_rows-requires : goal.write_rows-requires
unfolding width
write_rows-requires c =
    (c.requires.0, length-take-le _ _ (omega (arith, c.atoms.ensures.0, c.requires.1)) ∙ ap (λ (k : ℕ). width * k) c.atoms.ensures.0)

pub returns : goal.returns
unfolding width
returns c =
    let end = width * c.atoms.result in
    ap (λ l. l ++ drop end c.args.clauses.now) c.write_rows.ensures
    ∙ ap (λ (k : ℕ). clause_words (first_set (task_of c.args.image.now)) ++ drop (width * k) c.args.clauses.now) c.atoms.ensures.0
