-- `fdr_image::is_right`: the counts, the directory, then the parts.
use Rattle.std.proofs.Common.{arith, ◌≡◌, true}
use Rattle.std.proofs.lemmas.Grind.{common_steps}
use Rattle.fdr_image.specs.Walk.{counts_right, fdr_right}
use Rattle.fdr_image.proofs.Reading.{few_operators, image_short}
use Rattle.fdr_image.proofs.is_right.Goals as goal

pub is_directory-requires : goal.is_directory-requires
is_directory-requires c =
    let counts : counts_right c.args.image.now ≡ true = grind (arith, common_steps) in omega (arith, few_operators _ counts)

pub returns-then-is_directory : goal.returns-then-is_directory
unfolding fdr_right
returns-then-is_directory c = grind (arith, common_steps)

pub returns-else-is_directory : goal.returns-else-is_directory
unfolding fdr_right
returns-else-is_directory c = grind (arith, common_steps, image_short c.args.image.now)
