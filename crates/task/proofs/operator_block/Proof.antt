use mathlib.Core.Path.{sym, subst}
use mathlib.Core.List.{List}
use Prim.Native.Nat.{ℕ}
use native.Mathlib.Omega.{arith}
use Rattle.directory.proofs.Laws.{directory_lies}
use Rattle.task.specs.Reads.{task_of}
use Rattle.task.specs.Post.{BlockGiven}
use Rattle.task.proofs.Questions.{task_read, block_given}
use Rattle.task.proofs.operator_block.Statement.{statement}
use Rattle.task.proofs.operator_block.Tie as tie

add-part : tie.Need-overflow_add-i
add-part c = omega (arith, (task_read _ c.requires.0).few_operators, c.requires.1)

part-requires : tie.Need-part-requires
part-requires c κs =
    directory_lies _ _ _ (task_read _ c.requires.0).directory (omega (arith, (task_read _ c.requires.0).count, c.requires.1))

returns : tie.Need-returns
returns c =
    let s = c.before.before in
    subst (λ (b : List ℕ). BlockGiven b (task_of s.args.image.now) s.args.i) (sym c.part.ensures)
    (block_given s.args.image.now s.requires.0 s.args.i s.requires.1)

pub operator_block_spec : {M : Type 1} → statement M
operator_block_spec = tie.close (tie.spec
    add-part
    part-requires
    returns)
