-- `fdr_image::atom::put_starts`: the sum is the rank of variable v's first value, and the ranks of the variables before it are there.
use Rattle.std.proofs.Common.{◌≡◌, ℕ, ◌<◌, get_or}
use Rattle.definitions.specs.FdrImage.{domains_in}
use Rattle.fdr_image.specs.Walk.{values_before}
use Rattle.fdr_image.proofs.atom.put_starts.Given as goal

abbrev pub invariant-loop-v : goal.invariant-loop-v
invariant-loop-v l =
    (l.sum ≡ values_before (domains_in l.domains) l.v) × ((u : ℕ) → u < l.v → get_or l.starts u 0 ≡ values_before (domains_in l.domains) u)
